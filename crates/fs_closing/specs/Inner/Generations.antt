-- Marks that count in one generation.
use Rattle.std.specs.Prelude.{ℕ, ◌<◌, ◌≤◌, ◌==◌, true, false, Option, Some, None, List, map, slice_index_or}
use Rattle.fs_closing.specs.declared.marks.Mark.{Mark}
use Rattle.fs_closing.specs.declared.marks.Written.{Written}

abbrev pub no_mark : Mark
no_mark = record { generation = 0; written = record { forward = 0; ty = 0; first = 0; depth = 0 } }

abbrev pub mark_at : List Mark → ℕ → Mark
mark_at marks n = slice_index_or marks n no_mark

-- what a generation wrote: nothing, where the mark is of another one
abbrev pub written_in : ℕ → Mark → Option Written
written_in generation m = elim (m.generation == generation) [ true ↦ Some m.written | false ↦ None ]

-- what a generation wrote at each node
abbrev pub all_in : ℕ → List Mark → List (Option Written)
all_in generation marks = map (written_in generation) marks

-- no mark is of a later generation, and the first one is 1
pub record AreFromPast (generation : ℕ) (marks : List Mark) : Type 0 where
  pub turned : 0 < generation
  pub past : (n : ℕ) → (mark_at marks n).generation ≤ generation
