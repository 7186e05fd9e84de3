-- Why claims don't go together: the first path at which they force two types without a common subtype, or a path that is too long.
use Rattle.std.specs.Prelude.{ℕ, ◌≡◌, ◌<◌, ◌+◌, ◌↔◌, ◌⊎◌, None, length, All}
use Rattle.fs_model.specs.Claims.{Path, Claim, exists_at, below, System}
use Rattle.fs_model.specs.Closure.{IsConsistent}
use Rattle.fs_model.specs.Numbering.{IsBefore}
use Rattle.fs_model.specs.Sources.{Source, Told}
use Rattle.forced_types.specs.Forced.{Forced}

pub data Verdict : Type 0 where
  -- they go together
  Fits : Verdict
  -- at this path these two types are forced, which have no common subtype
  Clash : Path → (t u : ℕ) → Verdict
  -- no such two are, and this path, which has one feature more than paths may have, is forced
  TooLong : Path → Verdict

-- a verdict that speaks of so many features and types
abbrev pub IsVerdictIn : (feats types : ℕ) → Verdict → Type 0
IsVerdictIn feats types Fits = Unit {0}
IsVerdictIn feats types (Clash p t u) = All (λ f. f < feats) p × (t < types) × (u < types)
IsVerdictIn feats types (TooLong p) = All (λ f. f < feats) p

module _ (s : System) (given : Claim → Type 0) where
  -- what is forced by derivations that go one feature past the limit on paths
  abbrev pub IsForced : Claim → Type 0
  IsForced = Forced s (s.path_limit + 1) given

  -- two types are forced at a path, and have no common subtype
  pub record Clashes (p : Path) (t u : ℕ) : Type 0 where
    pub first : IsForced (below p t)
    pub second : IsForced (below p u)
    pub apart : s.meet t u ≡ None

  -- a path beyond the limit is forced
  pub record IsTooLong (p : Path) : Type 0 where
    pub forced : IsForced (exists_at p)
    pub long : length p ≡ s.path_limit + 1

  -- the least path, in the order of paths, at which two types clash, and of these the pair whose first, then whose second number is least
  pub record IsFirstClash (p : Path) (t u : ℕ) : Type 0 where
    pub clashes : Clashes p t u
    pub least : (q : Path) (v w : ℕ) → Clashes q v w → (p ≡ q) ⊎ IsBefore p q
    pub smaller : (v w : ℕ) → Clashes p v w → (t < v) ⊎ ((t ≡ v) × ((u ≡ w) ⊎ (u < w)))

  pub record IsFirstLong (p : Path) : Type 0 where
    pub long : IsTooLong p
    pub least : (q : Path) → IsTooLong q → (p ≡ q) ⊎ IsBefore p q

  abbrev pub IsVerdict : Verdict → Type 0
  IsVerdict Fits = ((p : Path) (t u : ℕ) → Clashes p t u → ⊥) × ((p : Path) → IsTooLong p → ⊥)
  IsVerdict (Clash p t u) = IsFirstClash p t u
  IsVerdict (TooLong p) = ((q : Path) (t u : ℕ) → Clashes q t u → ⊥) × IsFirstLong p

-- The law: what is told goes together exactly where this is the verdict on it.
abbrev pub VerdictsAreRight : Type 0
VerdictsAreRight = (s : System) (source : Source) → IsVerdict s (Told source) Fits ↔ IsConsistent s (Told source)

-- and there is one verdict at most
abbrev pub VerdictsAreOne : Type 0
VerdictsAreOne = (s : System) (source : Source) (a b : Verdict) → IsVerdict s (Told source) a → IsVerdict s (Told source) b → a ≡ b
