use Rattle.std.proofs.Common.{◌∙◌, length, map, string_bytes, sym, subst, List}
use Rattle.std.specs.Prelude.{String}
use Rattle.std.specs.Global.{Global}
use Rattle.type_hierarchy.specs.Table.{TypeTable}
use Rattle.line_charts.specs.Texts.{chart_lines}
use Rattle.line_charts.specs.Views.{chart_answer, IsChartNamed}
use Rattle.line_commands.specs.Inner.Charters.{types_in}
use Rattle.line_commands.proofs.charter.Charter.reported.Goals as goal

pub lines_of_chart-requires : goal.lines_of_chart-requires
lines_of_chart-requires c =
    let e = c.args.self.now.engine in
    let a = chart_answer c.args.answer.now in
    subst (λ (t : TypeTable). IsChartNamed t (length c.deref.result.now) a) (sym c.types.ensures) (subst (λ (ns : List (String Global)). IsChartNamed (types_in e) (length ns) a) (sym c.deref.ensures.value) c.requires)

pub returns-in-Ok-clause-lines : goal.returns-in-Ok-clause-lines
returns-in-Ok-clause-lines c =
    c.in-Ok.ensures ∙ (λ k. chart_lines (c.types.ensures k) (map string_bytes (c.deref.ensures.value k)) c.args.self.now.lattice c.args.number (chart_answer c.args.answer.now))
