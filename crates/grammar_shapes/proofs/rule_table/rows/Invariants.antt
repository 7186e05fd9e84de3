use Rattle.std.proofs.Common.{◌≡◌, take, map}
use Rattle.grammar_shapes.specs.Inner.Tables.{rule_sketches, row_of}
use Rattle.grammar_shapes.proofs.rule_table.rows.Given as goal

abbrev pub invariant-loop-rule : goal.invariant-loop-rule
invariant-loop-rule l = map row_of l.rows.items ≡ map (rule_sketches l.checks) (take l.rule-index l.rules)
