-- What a seat is between two calls, and inside one.
use Rattle.std.specs.Prelude.{◌≡◌, ℕ, ◌+◌, ◌<◌, true, false, List, [], ◌∷◌, length, None, Some}
use mathlib.Core.Option.{some}
use lib.ListN.{get_elem?}
use Rattle.shared_chart.specs.Plays.{Sat}

abbrev pub own_calls : {E : Type 0} → List (ℕ × List E) → List E
own_calls [] = []
own_calls (c ∷ cs) = c.1

module _ {B M E : Type 0} where
  -- it has drawn no turn
  pub record IsIdle (me : Sat B M E) : Type 0 where
    pub turn : me.0.turn ≡ None
    pub holds : me.0.holds ≡ false
    pub empty : me.1 ≡ []
    pub numbered : 0 < length me.0.claims

  -- the seat of this number between two calls, which makes no seats
  pub record Sits (k : ℕ) (me : Sat B M E) : Type 0 where
    pub idle : IsIdle me
    pub makes_none : me.0.unmade ≡ 0
    pub claims : me.0.claims ≡ (k, own_calls me.0.claims) ∷ []

  -- it knows how the object began, and has seen this state of it
  pub record Knows (b : B) (x : M) (me : Sat B M E) : Type 0 where
    pub begun : me.0.base ≡ Some b
    pub seen : me.0.seen ≡ x ∷ []

  -- it has made no call yet
  pub record IsFresh (me : Sat B M E) : Type 0 where
    pub calls : own_calls me.0.claims ≡ []
    pub saw : me.0.saw ≡ false
    pub set : me.0.set ≡ 0

  -- the seat number 0 while it makes the others, the next of which has the number k
  pub record Makes (seats k : ℕ) (b : B) (x : M) (me : Sat B M E) : Type 0 where
    pub idle : IsIdle me
    pub claims : me.0.claims ≡ (0, []) ∷ []
    pub knows : Knows b x me
    pub unmade : me.0.unmade + k ≡ seats
    pub next : me.0.next ≡ k
    pub saw : me.0.saw ≡ false
    pub set : me.0.set ≡ 0

  -- it stands for the number k, with these calls
  abbrev pub Claims : Sat B M E → ℕ → List E → Type 0
  Claims me k calls = (m : ℕ) × (get_elem? me.0.claims m ≡ some (k, calls))

  -- a seat has all that the seat of the number k knows
  pub record Has (me : Sat B M E) (k : ℕ) (other : Sat B M E) : Type 0 where
    pub claims : Claims me k (own_calls other.0.claims)
    pub seen : (m : ℕ) (y : M) → get_elem? other.0.seen m ≡ some y → (n : ℕ) × (get_elem? me.0.seen n ≡ some y)
    pub saw : other.0.saw ≡ true → me.0.saw ≡ true
