use Rattle.std.proofs.Common.{ℕ, ◌<◌, [], slice_index_or}
use Rattle.type_hierarchy.specs.Decls.{texts}
use Rattle.constraint_expand.specs.Found.{numbers_noted, HasNoted}
use Rattle.constraint_expand.proofs.splits.check_introducers.Given as goal

abbrev pub invariant-loop-feature : goal.invariant-loop-feature
invariant-loop-feature l = (j : ℕ) → j < l.feature-index → HasNoted l.types (numbers_noted l.writers.entries (slice_index_or (texts l.features.keys) j []))
