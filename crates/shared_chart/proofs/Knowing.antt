-- What a seat knows, by the lists in which it stands.
use Rattle.std.proofs.Common.{◌≡◌, true, List, [], ◌∷◌, length, Option, None, Some, is_some, refl, arith}
use Rattle.std.proofs.lemmas.Option.{same_Some}
use Rattle.shared_chart.specs.declared.held.LockSeat.{LockSeat}
use Rattle.shared_chart.specs.TurnSeats.{Knows}
use Rattle.shared_chart.specs.Held.{sole, present, base_of, state_of}

module _ {A : Type 0} where
  pub sole_only : (l : List A) (one : length l ≡ 1) → l ≡ sole l one ∷ []
  sole_only [] one = absurd (omega arith)
  sole_only (x ∷ []) one = refl
  sole_only (x ∷ y ∷ ys) one = absurd (omega arith)

  pub sole_is : (l : List A) (one : length l ≡ 1) (x : A) → l ≡ x ∷ [] → sole l one ≡ x
  sole_is [] one x is = absurd (let e : length {A = A} [] ≡ 1 = one in omega arith)
  sole_is (y ∷ ys) one x is = cc

  pub present_only : (o : Option A) (there : is_some o ≡ true) → o ≡ Some (present o there)
  present_only None there = absurd (cc)
  present_only (Some x) there = refl

  pub present_is : (o : Option A) (there : is_some o ≡ true) (x : A) → o ≡ Some x → present o there ≡ x
  present_is None there x is = absurd (cc)
  present_is (Some y) there x is = same_Some y x is

  pub present_same : (o p : Option A) (there : is_some o ≡ true) (here : is_some p ≡ true) → o ≡ p → present o there ≡ present p here
  present_same None p there here e = absurd (cc)
  present_same (Some x) None there here e = absurd (cc)
  present_same (Some x) (Some y) there here e = same_Some x y e

module _ {B M E : Type 0} where
  pub knows_of : (s : LockSeat B M E) → Knows (base_of s) (state_of s) s.chair.me
  knows_of s = record { begun = present_only s.chair.me.0.base s.begun; seen = sole_only s.chair.me.0.seen s.single }

  -- a seat that knows a beginning and a state has no others
  pub base_known : (s : LockSeat B M E) (b : B) (x : M) → Knows b x s.chair.me → base_of s ≡ b
  base_known s b x k = present_is s.chair.me.0.base s.begun b k.begun

  pub state_known : (s : LockSeat B M E) (b : B) (x : M) → Knows b x s.chair.me → state_of s ≡ x
  state_known s b x k = sole_is s.chair.me.0.seen s.single x k.seen
