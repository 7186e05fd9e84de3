-- Structures as finite maps on a list of paths.
use Rattle.std.specs.Prelude.{ℕ, ◌≡◌, Bool, true, false, ◌&&◌, Option, Some, None, List, [], ◌∷◌, ◌++◌, map}
pub use Rattle.chart_model.specs.Calculus.{Along, along_none, along_more}
use Rattle.fs_model.specs.Claims.{Path, Claim, exists_at, same, below, System, Has}

-- `types` has the type of each of the paths that may be, in their order, and none where the path doesn't exist;
-- `equal` tells of each two of these paths whether they are equal
pub record Structure : Type 0 where
  pub types : List (Option ℕ)
  pub equal : List Bool

abbrev pub pairs_from : List Path → List Path → List (Path × Path)
pairs_from [] qs = []
pairs_from (p ∷ ps) qs = map (λ q. (p, q)) qs ++ pairs_from ps qs

abbrev pub pairs_of : List Path → List (Path × Path)
pairs_of ps = pairs_from ps ps

-- both lists are equally long, and the test holds at each place
abbrev pub all_along : {A : Type 0} → (A → A → Bool) → List A → List A → Bool
all_along test [] [] = true
all_along test [] (y ∷ ys) = false
all_along test (x ∷ xs) [] = false
all_along test (x ∷ xs) (y ∷ ys) = test x y && all_along test xs ys

abbrev pub over_type : System → Option ℕ → Option ℕ → Bool
over_type s None u = true
over_type s (Some t) None = false
over_type s (Some t) (Some u) = s.is_below u t

abbrev pub over_equal : Bool → Bool → Bool
over_equal false b = true
over_equal true b = b

-- the first subsumes the second
abbrev pub over : System → Structure → Structure → Bool
over s a b = all_along (over_type s) a.types b.types && all_along over_equal a.equal b.equal

-- one place of both lists holds these two
pub data Beside {A B : Type 0} (a : A) (b : B) : List A → List B → Type 0 where
  beside_here : {xs : List A} {ys : List B} → Beside a b (a ∷ xs) (b ∷ ys)
  beside_there : {x : A} {y : B} {xs : List A} {ys : List B} → Beside a b xs ys → Beside a b (x ∷ xs) (y ∷ ys)

-- what a structure claims of the paths that may be
pub data Says (ps : List Path) (m : Structure) : Claim → Type 0 where
  says_type : (p : Path) (t : ℕ) → Beside p (Some t) ps m.types → Says ps m (below p t)
  says_equal : (p q : Path) → Beside (p, q) true (pairs_of ps) m.equal → Says ps m (same p q)

-- the type of a path is the least of its types
abbrev pub IsTypeAt : System → (Claim → Type 0) → Path → Option ℕ → Type 0
IsTypeAt s closure p None = closure (exists_at p) → ⊥
IsTypeAt s closure p (Some t) = closure (below p t) × ((u : ℕ) → closure (below p u) → s.is_below t u ≡ true)

abbrev pub IsEqualAt : (Claim → Type 0) → Path × Path → Bool → Type 0
IsEqualAt closure pq false = closure (same pq.0 pq.1) → ⊥
IsEqualAt closure pq true = closure (same pq.0 pq.1)

-- this is the structure of these claims
pub record IsStructureOf (s : System) (ps : List Path) (closure : Claim → Type 0) (m : Structure) : Type 0 where
  pub types : Along (IsTypeAt s closure) ps m.types
  pub equal : Along (IsEqualAt closure) (pairs_of ps) m.equal
  pub inside : (p : Path) → closure (exists_at p) → Has p ps

-- types are in a partial order; unlike the rest of an order of types this is a fact with one proof, so a field can keep it
pub record IsPartialOrder (s : System) : Type 0 where
  pub reflexive : (t : ℕ) → s.is_below t t ≡ true
  pub transitive : (t u v : ℕ) → s.is_below t u ≡ true → s.is_below u v ≡ true → s.is_below t v ≡ true
  pub antisymmetric : (t u : ℕ) → s.is_below t u ≡ true → s.is_below u t ≡ true → t ≡ u
