use Rattle.std.proofs.Common.{ℕ, ◌≡◌, true, false, take, slice_index_or}
use Rattle.fs_model.specs.Claims.{Has}
use Rattle.fs_closing.proofs.outline.are_marked.Given as goal

abbrev pub invariant-loop-j : goal.invariant-loop-j
invariant-loop-j l = (k : ℕ) → Has k (take l.j-index l.places) → slice_index_or l.marks k false ≡ true
