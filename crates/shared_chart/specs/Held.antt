-- What a seat knows between two calls, and a seat as the lock is opened.
use Rattle.std.specs.Prelude.{◌≡◌, ℕ, zero, true, List, [], ◌∷◌, length, Option, None, Some, is_some}
use Rattle.std.proofs.Common.{sym, true≢false}
use Rattle.std.proofs.Math.Nat.{suc-ne-zero}
use Rattle.atomic_table.specs.Seated.{TableId}
use Rattle.shared_chart.specs.declared.held.LockSeat.{LockSeat}
use Rattle.shared_chart.specs.TurnSeats.{IsFresh}

-- the one element of a list of one
abbrev pub sole : {A : Type 0} (l : List A) → length l ≡ 1 → A
sole [] one = absurd (suc-ne-zero zero (sym one))
sole (x ∷ xs) one = x

-- the value that is there
abbrev pub present : {A : Type 0} (o : Option A) → is_some o ≡ true → A
present None there = absurd (true≢false (sym there))
present (Some x) there = x

module _ {B M E : Type 0} where
  -- how the object began
  abbrev pub base_of : LockSeat B M E → B
  base_of s = present s.chair.me.0.base s.begun

  -- the latest state of the object that the seat has seen
  abbrev pub state_of : LockSeat B M E → M
  state_of s = sole s.chair.me.0.seen s.single

  -- the seat of this number, which has seen the object as it began and has made no call
  pub record IsOpened (id : TableId) (i : ℕ) (b : B) (x : M) (s : LockSeat B M E) : Type 0 where
    pub id_is : s.chair.table_id ≡ id
    pub number : s.number ≡ i
    pub base : base_of s ≡ b
    pub state : state_of s ≡ x
    pub fresh : IsFresh s.chair.me
