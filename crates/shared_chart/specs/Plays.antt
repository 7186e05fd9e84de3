-- What each step tells: of the step, the seat before, the number found and the seat after.
use Rattle.std.specs.Prelude.{◌≡◌, ◌≢◌, ℕ, ◌+◌, ◌-◌, ◌==◌, ◌||◌, ◌*◌, ◌%◌, ◌^◌, ◌<◌, true, false, List, [], ◌∷◌, ◌++◌, length, Option, Some, None}
use Rattle.atomic_table.specs.Table.{Me, Step, rest}
use Rattle.shared_chart.specs.declared.view.View.{View}
use mathlib.Core.Option.{some}
use lib.ListN.{get_elem?}
use Rattle.shared_chart.specs.Turns.{AreSeen, calls_by}

abbrev pub Sat : Type 0 → Type 0 → Type 0 → Type 0
Sat B M E = Me (Option M) (View B M E)

module _ {B M E : Type 0} where
  -- a turn is drawn
  abbrev pub drew : Step (Option M) → Sat B M E → ℕ → Sat B M E → Type 0
  drew st m r n = (t : ℕ) × (t % 2 ^ 64 ≡ r) × (n ≡ (record m.0 { turn = Some t }, m.1))

  -- a look at the turns served: the turn is called where its number stands there
  abbrev pub looked : Step (Option M) → Sat B M E → ℕ → Sat B M E → Type 0
  looked st m r n = (t : ℕ) → m.0.turn ≡ Some t → (t % 2 ^ 64 ≡ r → n ≡ (record m.0 { called = true }, m.1)) × (t % 2 ^ 64 ≢ r → n ≡ m)

  -- what the object that is taken tells: it comes from the beginning and from all that was seen, and has of each number of the seat its calls
  pub record Taken (history : M → List E) (caller : E → ℕ) (stands : B → M → Type 0) (later : B → M → M → Type 0) (m : Sat B M E) (c : M) (mark : ℕ) : Type 0 where
    pub bit : mark < 2
    pub saw : m.0.saw ≡ true → mark ≡ 1
    pub standing : (b : B) → m.0.base ≡ Some b → stands b c
    pub seen : (b : B) → m.0.base ≡ Some b → AreSeen history caller stands later b m.0.seen c
    pub calls : (j : ℕ) (d : ℕ × List E) → get_elem? m.0.claims j ≡ some d → calls_by caller d.0 (history c) ≡ d.1
    pub room : length (history c) < 2 ^ 63

  -- the object comes from the beginning and from the one state that the seat has seen
  pub record Comes (stands : B → M → Type 0) (later : B → M → M → Type 0) (m : Sat B M E) (b : B) (x c : M) : Type 0 where
    pub begun : m.0.base ≡ Some b
    pub seen : m.0.seen ≡ x ∷ []
    pub standing : stands b c
    pub late : later b x c

  -- the object is taken
  abbrev pub took : (M → List E) → (E → ℕ) → (B → M → Type 0) → (B → M → M → Type 0) → Step (Option M) → Sat B M E → ℕ → Sat B M E → Type 0
  took history caller stands later st m r n = (c : M) × (mark : ℕ) × (n ≡ (record m.0 { holds = true; seen = c ∷ []; mark = mark }, (0, Some c) ∷ m.1))
      × (r ≡ 2 * length (history c) + mark) × Taken history caller stands later m c mark

  -- one call more stands in the history
  abbrev pub raised : (M → List E) → Step (Option M) → Sat B M E → ℕ → Sat B M E → Type 0
  raised history st m r n = (c x : M) (e : E) (k : ℕ) (calls : List E) → m.1 ≡ (0, Some c) ∷ [] → m.0.seen ≡ x ∷ [] → history c ≡ history x ++ e ∷ [] → m.0.claims ≡ (k, calls) ∷ []
      → n ≡ (record m.0 { seen = c ∷ []; claims = (k, calls ++ e ∷ []) ∷ [] }, m.1)

  -- the mark is set
  abbrev pub marked : Step (Option M) → Sat B M E → ℕ → Sat B M E → Type 0
  marked st m r n = n ≡ (record m.0 { mark = 1; saw = true; set = 1 }, m.1)

  -- the object is given back, and then the turn ends
  abbrev pub gave : Step (Option M) → Sat B M E → ℕ → Sat B M E → Type 0
  gave st m r n = (c : M) → m.1 ≡ (0, Some c) ∷ [] → n ≡ (record m.0 { holds = false; seen = c ∷ [] }, rest m.1)

  -- the same, and the mark counts as seen
  abbrev pub noted : Step (Option M) → Sat B M E → ℕ → Sat B M E → Type 0
  noted st m r n = (c : M) → m.1 ≡ (0, Some c) ∷ [] → n ≡ (record m.0 { holds = false; seen = c ∷ []; saw = m.0.saw || (m.0.mark == 1) }, rest m.1)

  abbrev pub ended : Step (Option M) → Sat B M E → ℕ → Sat B M E → Type 0
  ended st m r n = n ≡ (record m.0 { turn = None; called = false }, m.1)

abbrev pub left_seat : {B M E : Type 0} → View B M E → View B M E
left_seat v = record v { unmade = v.unmade - 1; next = v.next + 1 }

abbrev pub both : {B M E : Type 0} → View B M E → View B M E → View B M E
both v u = record v { claims = v.claims ++ u.claims; seen = v.seen ++ u.seen; saw = v.saw || u.saw; set = v.set + u.set }
