use Rattle.line_commands.proofs.ParseLaws.{parse-laws}
use Rattle.line_commands.proofs.laws.parse_lawful.Goals as goal

pub returns : goal.returns
returns c =
    let laws = c.grammar_laws.ensures in
    parse-laws laws.one_grammar laws.one_fault laws.not_both laws.calm c.said_laws.ensures.views c.one_signs.ensures c.one_line.ensures.lattice c.one_line.ensures.wrong c.one_line.ensures.apart c.parse_laws.ensures.one c.chart_laws.ensures.unknown c.mrs_line_laws.ensures.lines
