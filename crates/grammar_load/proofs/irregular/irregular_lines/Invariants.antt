use Rattle.std.proofs.Common.{◌≡◌, ◌++◌, length, map, string_bytes}
use Rattle.spelling_rules.specs.Views.{line_of}
use Rattle.grammar_load.specs.IrregularLines.{lines_said}
use Rattle.grammar_load.proofs.irregular.irregular_lines.Given as goal

abbrev pub invariant-loop-rest : goal.invariant-loop-rest
invariant-loop-rest l = map line_of l.out.items ++ lines_said (map string_bytes l.rules) l.rest ≡ lines_said (map string_bytes l.rules) l.text

abbrev pub decreases-loop-rest : goal.decreases-loop-rest
decreases-loop-rest l = length l.rest
