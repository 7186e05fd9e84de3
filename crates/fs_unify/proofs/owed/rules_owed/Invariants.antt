use Rattle.std.proofs.Common.{◌≡◌, false, take, filter, slice_index_or}
use Rattle.fs_unify.proofs.owed.rules_owed.Given as goal

abbrev pub invariant-loop-rule : goal.invariant-loop-rule
invariant-loop-rule l = l.row.items ≡ filter (λ j. slice_index_or l.marks j false) (take l.rule-index l.rule-items)
