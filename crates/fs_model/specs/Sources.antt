-- Graphs as readers of paths, where claims come from, and what unification answers.
use Rattle.std.specs.Prelude.{ℕ, ◌≡◌, true, Option, Some, None, List}
use Rattle.fs_model.specs.Claims.{Path, Claim, exists_at, same, below, at, System, Has}
use Rattle.fs_model.specs.Closure.{IsConsistent, IsStructure}

-- a graph as one sees it who follows paths from its root
pub record Reader : Type 0 where
  pub node_at : Path → Option ℕ
  pub type_of : ℕ → ℕ

-- Two graphs are one structure: they have the same paths, the same equalities of paths, and so the same least equal paths,
-- and the same types.
pub record IsSameStructure (a b : Reader) : Type 0 where
  pub there : (p : Path) (n : ℕ) → a.node_at p ≡ Some n → (m : ℕ) × (b.node_at p ≡ Some m)
  pub there_back : (p : Path) (n : ℕ) → b.node_at p ≡ Some n → (m : ℕ) × (a.node_at p ≡ Some m)
  pub equal : (p q : Path) (n m : ℕ) → a.node_at p ≡ Some n → a.node_at q ≡ Some n → b.node_at p ≡ Some m → b.node_at q ≡ Some m
  pub equal_back : (p q : Path) (n m : ℕ) → b.node_at p ≡ Some n → b.node_at q ≡ Some n → a.node_at p ≡ Some m → a.node_at q ≡ Some m
  pub types : (p : Path) (n m : ℕ) → a.node_at p ≡ Some n → b.node_at p ≡ Some m → a.type_of n ≡ b.type_of m

-- each path and each equality of the general one holds in the special one, whose types are at or below
pub record Subsumes (s : System) (general special : Reader) : Type 0 where
  pub paths : (p : Path) (n : ℕ) → general.node_at p ≡ Some n → (m : ℕ) × (special.node_at p ≡ Some m)
  pub equalities : (p q : Path) (n m : ℕ) → general.node_at p ≡ Some n → general.node_at q ≡ Some n →
      special.node_at p ≡ Some m → special.node_at q ≡ Some m
  pub types : (p : Path) (n m : ℕ) → general.node_at p ≡ Some n → special.node_at p ≡ Some m →
      s.is_below (special.type_of m) (general.type_of n) ≡ true

-- the facts of a graph
pub data Tells (r : Reader) : Claim → Type 0 where
  tells_exists : (p : Path) (n : ℕ) → r.node_at p ≡ Some n → Tells r (exists_at p)
  tells_same : (p q : Path) (n : ℕ) → r.node_at p ≡ Some n → r.node_at q ≡ Some n → Tells r (same p q)
  tells_below : (p : Path) (n : ℕ) → r.node_at p ≡ Some n → Tells r (below p (r.type_of n))

-- a graph at a place
pub record Part : Type 0 where
  pub place : Path
  pub reader : Reader

-- claims in a list, and graphs at places
pub record Source : Type 0 where
  pub claims : List Claim
  pub parts : List Part

-- the claims of a source
pub data Told (source : Source) : Claim → Type 0 where
  told_claim : (c : Claim) → Has c source.claims → Told source c
  told_part : (part : Part) (c : Claim) → Has part source.parts → Tells part.reader c → Told source (at part.place c)

-- a graph is the structure of the closure
abbrev pub IsGraphOf : System → (Claim → Type 0) → Reader → Type 0
IsGraphOf s given r = IsStructure s given r.node_at r.type_of

-- unification answers the structure of the closure, and none exactly where the closure is inconsistent
abbrev pub IsUnified : System → Source → Option Reader → Type 0
IsUnified s source None = IsConsistent s (Told source) → ⊥
IsUnified s source (Some r) = IsConsistent s (Told source) × IsGraphOf s (Told source) r

-- two answers are one: both none, or one structure
abbrev pub IsSameAnswer : Option Reader → Option Reader → Type 0
IsSameAnswer None None = Unit {0}
IsSameAnswer None (Some b) = ⊥
IsSameAnswer (Some a) None = ⊥
IsSameAnswer (Some a) (Some b) = IsSameStructure a b
