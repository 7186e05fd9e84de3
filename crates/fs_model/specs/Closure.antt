-- The closure of a set of claims: the least set that holds them under the rules (Copestake 2002, well-formed structures).
use Rattle.std.specs.Prelude.{ℕ, ◌≡◌, ◌≤◌, ◌↔◌, true, Option, Some, [], ◌∷◌, ◌++◌, length}
use Rattle.fs_model.specs.Claims.{Path, Claim, exists_at, same, below, at, System, Has}

-- the claims that follow from a set of claims
pub data Closure (s : System) (given : Claim → Type 0) : Claim → Type 0 where
  given_claim : (c : Claim) → given c → Closure s given c
  -- the ends of an equality and of a type exist, and so does every prefix of a path
  same_exists : (p q : Path) → Closure s given (same p q) → Closure s given (exists_at p)
  below_exists : (p : Path) (t : ℕ) → Closure s given (below p t) → Closure s given (exists_at p)
  prefix : (p q : Path) → Closure s given (exists_at (p ++ q)) → Closure s given (exists_at p)
  -- equality is an equivalence on the paths that exist; equal paths have equal extensions and the same types
  same_refl : (p : Path) → Closure s given (exists_at p) → Closure s given (same p p)
  same_sym : (p q : Path) → Closure s given (same p q) → Closure s given (same q p)
  same_trans : (p q r : Path) → Closure s given (same p q) → Closure s given (same q r) → Closure s given (same p r)
  same_extend : (p q r : Path) → Closure s given (same p q) → Closure s given (exists_at (p ++ r)) →
      Closure s given (same (p ++ r) (q ++ r))
  same_type : (p q : Path) (t : ℕ) → Closure s given (same p q) → Closure s given (below p t) → Closure s given (below q t)
  -- a feature at a path puts the path's type at or below the feature's introducer
  introduced : (p : Path) (f : ℕ) → Closure s given (exists_at (p ++ f ∷ [])) → Closure s given (below p (s.introducer f))
  -- what is at or below two types is at or below their meet, and at or below what is above it
  met : (p : Path) (t u m : ℕ) → Closure s given (below p t) → Closure s given (below p u) → s.meet t u ≡ Some m →
      Closure s given (below p m)
  raised : (p : Path) (t u : ℕ) → Closure s given (below p t) → s.is_below t u ≡ true → Closure s given (below p u)
  -- everything is at or below the top type
  topped : (p : Path) → Closure s given (exists_at p) → Closure s given (below p s.top)
  -- the facts of a type hold where the type does
  constrained : (p : Path) (t : ℕ) (c : Claim) → Closure s given (below p t) → Has c (s.facts_of t) →
      Closure s given (at p c)

-- no two types at a path clash, and no path is too long
pub record AreConsistent (s : System) (closure : Claim → Type 0) : Type 0 where
  pub typed : (p : Path) (t u : ℕ) → closure (below p t) → closure (below p u) → (m : ℕ) × (s.meet t u ≡ Some m)
  pub bounded : (p : Path) → closure (exists_at p) → length p ≤ s.path_limit

abbrev pub IsConsistent : System → (Claim → Type 0) → Type 0
IsConsistent s given = AreConsistent s (Closure s given)

-- Nodes at paths, and a type for each node, are the structure of the closure. A closure holds with two types their meet,
-- and the top type everywhere, so the meet of all types at a path is the least one there.
pub record IsStructure (s : System) (given : Claim → Type 0) (node_at : Path → Option ℕ) (type_of : ℕ → ℕ) : Type 0 where
  pub paths : (p : Path) → Closure s given (exists_at p) ↔ ((n : ℕ) × (node_at p ≡ Some n))
  pub equalities : (p q : Path) → Closure s given (same p q) ↔ ((n : ℕ) × (node_at p ≡ Some n) × (node_at q ≡ Some n))
  pub types_there : (p : Path) (n : ℕ) → node_at p ≡ Some n → Closure s given (below p (type_of n))
  pub types_above : (p : Path) (n t : ℕ) → node_at p ≡ Some n → Closure s given (below p t) → s.is_below (type_of n) t ≡ true
