-- What parts force at paths, whether or not all of it goes together: their closure without consistency, over paths of bounded length.
use Rattle.std.specs.Prelude.{ℕ, ◌≡◌, ◌≤◌, true, Some, [], ◌∷◌, ◌++◌, length, ◌⊎◌}
use Rattle.fs_model.specs.Claims.{Path, Claim, exists_at, same, below, at, System, Has}

-- all paths of a claim have so many features at most
abbrev pub IsWithin : ℕ → Claim → Type 0
IsWithin most (exists_at p) = length p ≤ most
IsWithin most (same p q) = (length p ≤ most) × (length q ≤ most)
IsWithin most (below p t) = length p ≤ most

-- a path of a claim
abbrev pub IsPathIn : Path → Claim → Type 0
IsPathIn q (exists_at p) = p ≡ q
IsPathIn q (same p r) = (p ≡ q) ⊎ (r ≡ q)
IsPathIn q (below p t) = p ≡ q

-- The claims that follow from a set of claims by the rules of closure, in derivations whose paths have `most` features at most. Of a claim that goes
-- further, the paths are followed as far as that.
pub data Forced (s : System) (most : ℕ) (given : Claim → Type 0) : Claim → Type 0 where
  given_claim : (c : Claim) → given c → IsWithin most c → Forced s most given c
  given_front : (c : Claim) (p q : Path) → given c → IsPathIn (p ++ q) c → length p ≤ most → Forced s most given (exists_at p)
  same_exists : (p q : Path) → Forced s most given (same p q) → Forced s most given (exists_at p)
  below_exists : (p : Path) (t : ℕ) → Forced s most given (below p t) → Forced s most given (exists_at p)
  prefix : (p q : Path) → Forced s most given (exists_at (p ++ q)) → Forced s most given (exists_at p)
  same_refl : (p : Path) → Forced s most given (exists_at p) → Forced s most given (same p p)
  same_sym : (p q : Path) → Forced s most given (same p q) → Forced s most given (same q p)
  same_trans : (p q r : Path) → Forced s most given (same p q) → Forced s most given (same q r) → Forced s most given (same p r)
  same_extend : (p q r : Path) → Forced s most given (same p q) → Forced s most given (exists_at (p ++ r)) → length (q ++ r) ≤ most →
      Forced s most given (same (p ++ r) (q ++ r))
  same_type : (p q : Path) (t : ℕ) → Forced s most given (same p q) → Forced s most given (below p t) → Forced s most given (below q t)
  introduced : (p : Path) (f : ℕ) → Forced s most given (exists_at (p ++ f ∷ [])) → Forced s most given (below p (s.introducer f))
  met : (p : Path) (t u m : ℕ) → Forced s most given (below p t) → Forced s most given (below p u) → s.meet t u ≡ Some m →
      Forced s most given (below p m)
  raised : (p : Path) (t u : ℕ) → Forced s most given (below p t) → s.is_below t u ≡ true → Forced s most given (below p u)
  topped : (p : Path) → Forced s most given (exists_at p) → Forced s most given (below p s.top)
  constrained : (p : Path) (t : ℕ) (c : Claim) → Forced s most given (below p t) → Has c (s.facts_of t) → IsWithin most (at p c) →
      Forced s most given (at p c)
  constrained_front : (p : Path) (t : ℕ) (c : Claim) (q r : Path) → Forced s most given (below p t) → Has c (s.facts_of t) →
      IsPathIn (q ++ r) (at p c) → length q ≤ most → Forced s most given (exists_at q)
