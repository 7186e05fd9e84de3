use Rattle.std.proofs.Common.{◌<◌, ◌++◌, Option, length, sym, subst}
use Rattle.std.specs.Prelude.{IfSome}
use Rattle.std.proofs.lemmas.Option.{slice_get-get_or}
use Rattle.chart_model.specs.Calculus.{Along}
use Rattle.chart_core.specs.declared.RowId.{RowId}
use Rattle.chart_core.specs.View.{one_of}
use Rattle.line_charts.specs.Inner.Stages.{IsNumber}
use Rattle.line_charts.proofs.Steps.{number_added}
use Rattle.line_charts.proofs.making.add_number.Goals as goal

pub returns-in_ok-push : goal.returns-in_ok-push
returns-in_ok-push c = λ ds h.
    let table = c.args.table.now in
    let row = c.in-Some.row in
    let low = subst (λ (o : Option RowId). IfSome o (λ d. d.0 < length table)) c.in-Some.is c.requires in
    subst (λ (o : Option RowId). Along (IsNumber table) c.push.new.self.items (ds ++ one_of o)) (sym c.in-Some.is)
    (number_added table c.args.numbers.now.items c.push.new.self.items ds row.0 _ c.in_ok-push.ensures.items (slice_get-get_or table row.0 0 low) h)
