-- The steps of closing a table, and what each keeps.
use Rattle.std.specs.Prelude.{ℕ, ◌≡◌, ◌≢◌, ◌<◌, ◌≤◌, ◌+◌, true, Some, None, List, [], ◌∷◌, ◌⊎◌}
use Rattle.fs_model.specs.Claims.{Path, Claim, System, Has}
use Rattle.fs_model.specs.Table.{Table, IsTable, NodeClaim, is_there, is_same, is_under, from, IsComplete, IsSound, walk}
use Rattle.fs_model.specs.Sources.{Reader}

-- the nodes of a claim are in the table
abbrev pub InTable : ℕ → NodeClaim → Type 0
InTable size (is_there n p) = n < size
InTable size (is_same n p m q) = (n < size) × (m < size)
InTable size (is_under n p u) = n < size

-- a claim at the end of an arc, moved to the node where the arc begins
abbrev pub before : ℕ → ℕ → NodeClaim → NodeClaim
before n f (is_there m p) = is_there n (f ∷ p)
before n f (is_same m p k q) = is_same n (f ∷ p) k q
before n f (is_under m p u) = is_under n (f ∷ p) u

-- the node at which a claim begins
abbrev pub head : NodeClaim → ℕ
head (is_there m p) = m
head (is_same m p k q) = m
head (is_under m p u) = m

-- the table with its work stands between the given claims and their closure
pub record Closes (s : System) (given : Claim → Type 0) (t : Table) (work : List NodeClaim) (w : ℕ → Path) : Type 0 where
  pub table : IsTable t
  pub filled : 0 < t.size
  pub in_table : (c : NodeClaim) → Has c work → InTable t.size c
  pub sound : IsSound s given t work w
  pub complete : IsComplete s given t work

-- the table of one node, of the top type
pub record Starts (s : System) (t : Table) : Type 0 where
  pub size_is : t.size ≡ 1
  pub live_is : (k : ℕ) → t.live k ≡ k
  pub arc_is : (f : ℕ) → t.arc 0 f ≡ None
  pub type_is : t.type_of 0 ≡ s.top

-- a graph stands in a table from a node on
pub record StandsIn (t : Table) (r : Reader) (entry : ℕ) (to : ℕ → ℕ) : Type 0 where
  pub paths : (p : Path) (n : ℕ) → r.node_at p ≡ Some n → walk t entry p ≡ Some (to n)
  pub types : (p : Path) (n : ℕ) → r.node_at p ≡ Some n → t.type_of (to n) ≡ r.type_of n

-- a new node at a feature
pub record Grows (top : ℕ) (t t' : Table) (n f : ℕ) : Type 0 where
  pub size_is : t'.size ≡ t.size + 1
  pub live_old : (k : ℕ) → k < t.size → t'.live k ≡ t.live k
  pub live_new : (k : ℕ) → t.size ≤ k → t'.live k ≡ k
  pub arc_here : t'.arc n f ≡ Some t.size
  pub arc_old : (k g : ℕ) → k < t.size → (k ≢ n) ⊎ (g ≢ f) → t'.arc k g ≡ t.arc k g
  pub arc_new : (g : ℕ) → t'.arc t.size g ≡ None
  pub type_old : (k : ℕ) → k < t.size → t'.type_of k ≡ t.type_of k
  pub type_new : t'.type_of t.size ≡ top

-- an arc to a node that is there
pub record Links (t t' : Table) (n f m : ℕ) : Type 0 where
  pub size_is : t'.size ≡ t.size
  pub live_is : (k : ℕ) → t'.live k ≡ t.live k
  pub arc_here : t'.arc n f ≡ Some m
  pub arc_old : (k g : ℕ) → k < t.size → (k ≢ n) ⊎ (g ≢ f) → t'.arc k g ≡ t.arc k g
  pub type_is : (k : ℕ) → k < t.size → t'.type_of k ≡ t.type_of k

-- a live node is merged into another; its arcs and its type become work
pub record Merges (t t' : Table) (work work' : List NodeClaim) (a b : ℕ) : Type 0 where
  pub size_is : t'.size ≡ t.size
  pub live_b : (k : ℕ) → t.live k ≡ b → t'.live k ≡ a
  pub live_other : (k : ℕ) → t.live k ≢ b → t'.live k ≡ t.live k
  pub arc_is : (k g : ℕ) → k < t.size → t'.arc k g ≡ t.arc k g
  pub type_is : (k : ℕ) → k < t.size → t'.type_of k ≡ t.type_of k
  pub work_type : Has (is_under a [] (t.type_of b)) work'
  pub work_arcs : (f m : ℕ) → t.arc b f ≡ Some m → Has (is_same a (f ∷ []) m []) work'
  pub work_rest : (c : NodeClaim) → Has c work → Has c work'
  pub work_only : (c : NodeClaim) → Has c work' →
      (c ≡ is_under a [] (t.type_of b)) ⊎ ((f : ℕ) × (m : ℕ) × (t.arc b f ≡ Some m) × (c ≡ is_same a (f ∷ []) m [])) ⊎ Has c work

-- a node's type is lowered; the facts of the types that it comes below become work
pub record Lowers (s : System) (t t' : Table) (work work' : List NodeClaim) (n u v : ℕ) : Type 0 where
  pub size_is : t'.size ≡ t.size
  pub live_is : (k : ℕ) → t'.live k ≡ t.live k
  pub arc_is : (k g : ℕ) → k < t.size → t'.arc k g ≡ t.arc k g
  pub type_here : t'.type_of n ≡ v
  pub meet_is : s.meet (t.type_of n) u ≡ Some v
  pub type_other : (k : ℕ) → k < t.size → k ≢ n → t'.type_of k ≡ t.type_of k
  pub work_facts : (x : ℕ) (c : Claim) → s.is_below v x ≡ true → Has c (s.facts_of x) →
      (s.is_below (t.type_of n) x ≡ true) ⊎ Has (from n c) work'
  pub work_rest : (c : NodeClaim) → Has c work → Has c work'
  pub work_only : (c : NodeClaim) → Has c work' →
      ((x : ℕ) × (d : Claim) × (s.is_below v x ≡ true) × Has d (s.facts_of x) × (c ≡ from n d)) ⊎ Has c work

-- two live nodes become one, whose type is the meet of their types; the arcs of the one that goes become work, and the facts
-- of the types that neither of the two was at or below
pub record Joins (s : System) (t t' : Table) (work work' : List NodeClaim) (a b v : ℕ) : Type 0 where
  pub size_is : t'.size ≡ t.size
  pub live_b : (k : ℕ) → t.live k ≡ b → t'.live k ≡ a
  pub live_other : (k : ℕ) → t.live k ≢ b → t'.live k ≡ t.live k
  pub arc_is : (k g : ℕ) → k < t.size → t'.arc k g ≡ t.arc k g
  pub meet_is : s.meet (t.type_of a) (t.type_of b) ≡ Some v
  pub type_here : t'.type_of a ≡ v
  pub type_other : (k : ℕ) → k < t.size → k ≢ a → t'.type_of k ≡ t.type_of k
  pub work_arcs : (f m : ℕ) → t.arc b f ≡ Some m → Has (is_same a (f ∷ []) m []) work'
  pub work_facts : (x : ℕ) (c : Claim) → s.is_below v x ≡ true → Has c (s.facts_of x) →
      (s.is_below (t.type_of a) x ≡ true) ⊎ ((s.is_below (t.type_of b) x ≡ true) ⊎ Has (from a c) work')
  pub work_rest : (c : NodeClaim) → Has c work → Has c work'
  pub work_only : (c : NodeClaim) → Has c work' →
      ((x : ℕ) × (d : Claim) × (s.is_below v x ≡ true) × Has d (s.facts_of x) × (c ≡ from a d)) ⊎
      (((f : ℕ) × (m : ℕ) × (t.arc b f ≡ Some m) × (c ≡ is_same a (f ∷ []) m [])) ⊎ Has c work)
