use Rattle.std.proofs.Common.{◌≡◌, ◌<◌, ℕ, Some}
use Rattle.std.specs.List.{slice_get}
use Rattle.tree_reading.specs.declared.Part.TheVariants.{Entry}
use Rattle.tree_reading.proofs.names.has_entry.Given as goal

abbrev pub invariant-loop-part : goal.invariant-loop-part
invariant-loop-part l = (e : ℕ) → e < l.part-index → slice_get l.parts e ≡ Some Entry → ⊥
