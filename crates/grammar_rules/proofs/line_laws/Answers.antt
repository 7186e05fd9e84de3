use Rattle.grammar_rules.proofs.Leafed.{lexemes_are_leaves}
use Rattle.grammar_rules.proofs.Found.{fulls_fit, found_answers, lines_answered}
use Rattle.grammar_rules.proofs.line_laws.Goals as goal

pub returns : goal.returns
returns c = record { leaves = lexemes_are_leaves; fit = fulls_fit; found = found_answers; answered = lines_answered }
