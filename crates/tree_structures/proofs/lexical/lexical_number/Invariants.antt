use Rattle.std.proofs.Common.{drop}
use Rattle.tree_structures.proofs.Asking.{IsClimbing}
use Rattle.tree_structures.proofs.lexical.lexical_number.Given as goal

abbrev pub invariant-loop-rule : goal.invariant-loop-rule
invariant-loop-rule l = IsClimbing l.fulls l.fn.memo l.memo l.entry l.rules (drop l.rule-index l.rules) l.number
