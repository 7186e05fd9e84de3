use Rattle.std.proofs.Common.{◌<◌, [], length, sym, subst}
use Rattle.chart_model.specs.Calculus.{Along, along_none}
use Rattle.line_charts.specs.Inner.Stages.{IsNumber}
use Rattle.line_charts.proofs.Steps.{in_turn}
use Rattle.line_charts.proofs.RowSteps.{of_second, of_third}
use Rattle.line_charts.proofs.making.numbers_at.Goals as goal

pub add_number-requires-2 : goal.add_number-requires-2
add_number-requires-2 c = of_second (λ d. d < length c.args.table.now) c.args.daughters.now c.requires

pub add_number-requires-3 : goal.add_number-requires-3
add_number-requires-3 c = of_third (λ d. d < length c.args.table.now) c.args.daughters.now c.requires

pub returns : goal.returns
returns c =
    let t = c.args.table.now in
    let start : Along (IsNumber t) c.new-numbers.result.items [] = subst (λ ns. Along (IsNumber t) ns []) (sym c.new-numbers.ensures.items) along_none in
    subst (Along (IsNumber t) c.add_number-4.new.numbers.items) (sym (in_turn c.args.daughters.now))
    (c.in_ok-add_number-4.ensures _ (c.in_ok-add_number-3.ensures _ (c.in_ok-add_number-2.ensures _ (c.in_ok-add_number.ensures [] start))))
