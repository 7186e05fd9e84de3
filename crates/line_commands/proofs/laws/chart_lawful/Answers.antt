use Rattle.line_commands.proofs.ChartLaws.{chart-laws}
use Rattle.line_commands.proofs.laws.chart_lawful.Goals as goal

pub returns : goal.returns
returns c =
    let laws = c.grammar_laws.ensures in
    λ name settings verbose limits lexical lattice. chart-laws limits lexical lattice laws.one_grammar laws.one_fault laws.not_both laws.calm c.said_laws.ensures.views c.one_signs.ensures c.one_line.ensures.lattice c.one_line.ensures.wrong c.one_line.ensures.apart c.chart_laws.ensures.one name settings verbose
