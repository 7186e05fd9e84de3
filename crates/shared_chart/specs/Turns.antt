-- The rule of the lock. Word 0 counts the turns drawn and word 1 the turns served, both modulo 2 ^ 64. Word 2 is twice the length of the history, and one more once the mark stands.
use Rattle.std.specs.Prelude.{◌≡◌, ◌≢◌, ◌⊎◌, ℕ, ◌+◌, ◌*◌, ◌%◌, ◌^◌, ◌<◌, ◌≤◌, ◌==◌, if◌then◌else◌, true, false, List, [], ◌∷◌, length, Option, Some, None}
use mathlib.Core.Option.{some, none}
use lib.ListN.{get_elem?}
use Rattle.atomic_table.specs.Table.{State}
use Rattle.shared_chart.specs.declared.view.View.{View}

-- f of each, added up
abbrev pub total : {A : Type 0} → (A → ℕ) → List A → ℕ
total f [] = 0
total f (x ∷ xs) = f x + total f xs

abbrev pub count_turn : Option ℕ → ℕ
count_turn None = 0
count_turn (Some t) = 1

abbrev pub waits : {B M E : Type 0} → View B M E → ℕ
waits v = count_turn v.turn

abbrev pub calls_by : {E : Type 0} → (E → ℕ) → ℕ → List E → List E
calls_by caller k [] = []
calls_by caller k (e ∷ es) = if k == caller e then e ∷ calls_by caller k es else calls_by caller k es

-- a seat that knows nothing
abbrev pub spent : {B M E : Type 0} → View B M E
spent = record { unmade = 0; next = 0; claims = []; base = None; seen = []; turn = None; called = false; holds = false; mark = 0; saw = false; set = 0 }

-- the seat number k, which knows the beginning, has made no call and may make so many seats
abbrev pub newcomer : {B M E : Type 0} → Option B → List M → ℕ → ℕ → View B M E
newcomer base seen k unmade = record { unmade = unmade; next = k + 1; claims = (k, []) ∷ []; base = base; seen = seen; turn = None; called = false; holds = false; mark = 0; saw = false; set = 0 }

module _ {B M E : Type 0} where
  abbrev pub Each : (ℕ → View B M E → Type 0) → List (View B M E) → Type 0
  Each F views = (i : ℕ) (v : View B M E) → get_elem? views i ≡ some v → F i v

  -- no two seats have one turn
  abbrev pub Apart : List (View B M E) → Type 0
  Apart views = (i j t : ℕ) (v w : View B M E) → get_elem? views i ≡ some v → get_elem? views j ≡ some w → v.turn ≡ Some t → w.turn ≡ Some t → i ≡ j

  -- some seat has the object
  abbrev pub Held : List (View B M E) → Type 0
  Held views = (i : ℕ) × (v : View B M E) × (get_elem? views i ≡ some v) × (v.holds ≡ true)

  -- the object is at home, or one seat has it
  abbrev pub Slotted : List (mathlib.Core.Option.Option (Option M)) → List (View B M E) → M → Type 0
  Slotted homes views now =
      ((homes ≡ some (Some now) ∷ []) × Each (λ i v. v.holds ≡ false) views)
      ⊎ ((homes ≡ none ∷ []) × Held views)

module _ {B M E : Type 0} (history : M → List E) (caller : E → ℕ) (stands : B → M → Type 0) (later : B → M → M → Type 0) where
  -- these states are earlier than this one
  abbrev pub AreSeen : B → List M → M → Type 0
  AreSeen base seen now = (m : ℕ) (x : M) → get_elem? seen m ≡ some x → later base x now

  -- what the rule says of the seat at i
  pub record Fits (base : B) (n made served drawn mark : ℕ) (now : M) (owner : ℕ → ℕ) (i : ℕ) (v : View B M E) : Type 0 where
    pub maker : v.unmade ≢ 0 → (i ≡ 0) × (v.unmade + made ≡ n) × (v.next ≡ made)
    pub claims : (m : ℕ) (c : ℕ × List E) → get_elem? v.claims m ≡ some c → (owner c.0 ≡ i) × (c.0 < made) × (calls_by caller c.0 (history now) ≡ c.1)
    pub base_is : (b : B) → v.base ≡ Some b → b ≡ base
    pub seen : AreSeen base v.seen now
    pub turn : (t : ℕ) → v.turn ≡ Some t → (served ≤ t) × (t < drawn) × (0 < length v.claims)
    pub called : v.called ≡ true → v.turn ≡ Some served
    pub holds : v.holds ≡ true → (v.called ≡ true) × (v.seen ≡ now ∷ []) × (v.mark ≡ mark)
    pub saw : v.saw ≡ true → mark ≡ 1
    pub set : 0 < v.set → 0 < length v.claims

  -- `now` is the state of the object, also while a seat has it
  pub record Kept (n : ℕ) (base : B) (s : State (Option M) (View B M E)) : Type 0 where
    pub now : M
    pub made : ℕ
    pub served : ℕ
    pub drawn : ℕ
    pub mark : ℕ
    pub owner : ℕ → ℕ
    pub words : s.words ≡ drawn % 2 ^ 64 ∷ served % 2 ^ 64 ∷ (2 * length (history now) + mark) ∷ []
    pub room : length (history now) < 2 ^ 63
    pub bit : mark < 2
    pub few : n < 2 ^ 32
    pub count : length s.views ≡ made
    pub made_few : made ≤ n
    pub waiting : total waits s.views + served ≡ drawn
    pub marks : total (λ (v : View B M E). v.set) s.views ≡ mark
    pub each : Each (Fits base n made served drawn mark now owner) s.views
    pub apart : Apart s.views
    pub callers : (m : ℕ) (e : E) → get_elem? (history now) m ≡ some e → caller e < made
    pub standing : stands base now
    pub slot : Slotted s.homes s.views now

  -- at the end, a seat that stands for every number
  abbrev pub Covers : ℕ → View B M E → Type 0
  Covers n v = (j : ℕ) → j < n → (m : ℕ) × (calls : List E) × (get_elem? v.claims m ≡ some (j, calls))

  -- the object at the end: of each number the calls that its seat made, in their order, and no others; later than all that was seen. A mark that was seen was set
  pub record Ends (n : ℕ) (base : B) (v : View B M E) (x : Option M) (c : M) : Type 0 where
    pub is : x ≡ Some c
    pub calls : (m : ℕ) (d : ℕ × List E) → get_elem? v.claims m ≡ some d → calls_by caller d.0 (history c) ≡ d.1
    pub callers : (m : ℕ) (e : E) → get_elem? (history c) m ≡ some e → caller e < n
    pub standing : stands base c
    pub seen : AreSeen base v.seen c
    pub saw : v.saw ≡ true → v.set ≡ 1
