-- Claims on paths, and what a closure needs of a type system (Copestake 2002, typed feature structures).
-- Types and features are numbers. Features have the order of their names.
use Rattle.std.specs.Prelude.{ℕ, ◌≡◌, Bool, true, Option, Some, List, ◌∷◌, ◌++◌}

-- a path is the list of its features from the root on
abbrev pub Path : Type 0
Path = List ℕ

-- a fact: a path exists, two paths are equal, or a path's type is at or below a type
pub data Claim : Type 0 where
  exists_at : Path → Claim
  same : Path → Path → Claim
  below : Path → ℕ → Claim

-- a claim, moved from the root to a path
abbrev pub at : Path → Claim → Claim
at p (exists_at q) = exists_at (p ++ q)
at p (same q r) = same (p ++ q) (p ++ r)
at p (below q t) = below (p ++ q) t

-- The order of types with its meets, the introducer of each feature, the facts of each type's definition and addenda,
-- and the greatest number of features that a path may have. A type of which nothing is written has no facts.
pub record System : Type 0 where
  pub is_below : ℕ → ℕ → Bool
  pub meet : ℕ → ℕ → Option ℕ
  pub top : ℕ
  pub introducer : ℕ → ℕ
  pub facts_of : ℕ → List Claim
  pub path_limit : ℕ

-- Types are partly ordered, with a greatest one, and the meet of two types is their greatest common subtype, which they
-- have wherever they have a common subtype. This is said of all numbers: one that no type has is one more string,
-- at or below itself and what the string type is at or below.
pub record IsOrder (s : System) : Type 0 where
  pub reflexive : (t : ℕ) → s.is_below t t ≡ true
  pub transitive : (t u v : ℕ) → s.is_below t u ≡ true → s.is_below u v ≡ true → s.is_below t v ≡ true
  pub antisymmetric : (t u : ℕ) → s.is_below t u ≡ true → s.is_below u t ≡ true → t ≡ u
  pub below_top : (t : ℕ) → s.is_below t s.top ≡ true
  pub meet_below : (t u m : ℕ) → s.meet t u ≡ Some m → (s.is_below m t ≡ true) × (s.is_below m u ≡ true)
  pub meet_greatest : (t u m v : ℕ) → s.meet t u ≡ Some m → s.is_below v t ≡ true → s.is_below v u ≡ true →
      s.is_below v m ≡ true
  pub meet_exists : (t u v : ℕ) → s.is_below v t ≡ true → s.is_below v u ≡ true → (m : ℕ) × (s.meet t u ≡ Some m)

-- x is an element of the list
pub data Has {X : Type 0} (x : X) : List X → Type 0 where
  here : {ys : List X} → Has x (x ∷ ys)
  there : {y : X} {ys : List X} → Has x ys → Has x (y ∷ ys)

-- nothing is written of the top type
abbrev pub IsBare : System → Type 0
IsBare s = (t : ℕ) (c : Claim) → s.is_below s.top t ≡ true → Has c (s.facts_of t) → ⊥

-- facts belong to written types alone
abbrev pub FactsAreWritten : System → (ℕ → Bool) → Type 0
FactsAreWritten s is_written = (t : ℕ) (c : Claim) → Has c (s.facts_of t) → is_written t ≡ true
