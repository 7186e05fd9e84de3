-- The spare room of a scratch.
use Rattle.std.specs.Prelude.{ℕ, List, length}
use Rattle.std.specs.Borrow.{Lends, MutBor, Fml, Array, u32}
use Rattle.std.specs.Vec.{with_items}
use Rattle.fs_unify.specs.declared.scratch.Scratch.{Scratch}
use Rattle.fs_unify.specs.contracts.scratch.Scratch.{the_row}

-- how many nodes a scratch has spare room for
abbrev pub room_of : Scratch → ℕ
room_of s = length s.marks.items

-- s ends with the marks that r shows last
abbrev pub LendsMarks : MutBor Scratch → MutBor (List ℕ) → Fml
LendsMarks s r = Lends the_row (Array u32 0) s r (λ w. record s.now { marks = with_items s.now.marks w })
