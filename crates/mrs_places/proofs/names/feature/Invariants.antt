use Rattle.std.proofs.Common.{◌≡◌, ℕ, ◌<◌, [], false, slice_index_or, string_bytes}
use Rattle.std.specs.Str.{bytes_eq}
use Rattle.type_hierarchy.specs.Decls.{texts}
use Rattle.mrs_places.proofs.names.feature.Given as goal

abbrev pub invariant-loop-i : goal.invariant-loop-i
invariant-loop-i l = (j : ℕ) → j < l.i → bytes_eq (string_bytes l.name) (slice_index_or (texts l.feats) j []) ≡ false
