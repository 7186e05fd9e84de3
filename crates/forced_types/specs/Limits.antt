-- Verdicts on claims that force no more paths than a limit.
use Rattle.std.specs.Prelude.{ℕ, ◌≡◌, ◌≢◌, ◌<◌, ◌+◌, Option, Some, None, List, [], length, slice_index_or}
use Rattle.fs_model.specs.Claims.{Path, Claim, exists_at, System}
use Rattle.fs_model.specs.Sources.{Source, Told}
use Rattle.forced_types.specs.Verdicts.{Verdict, IsForced, IsVerdict}

-- no path of a list is there twice
abbrev pub AreApart : List Path → Type 0
AreApart ps = (i j : ℕ) → i < j → j < length ps → slice_index_or ps i [] ≢ slice_index_or ps j []

-- More paths than a limit are forced, beside that of the root. More claims force no fewer, so that the order in which claims are worked off
-- doesn't matter.
pub record HasMoreForced (s : System) (given : Claim → Type 0) (limit : ℕ) : Type 0 where
  pub paths : List Path
  pub apart : AreApart paths
  pub forced : (i : ℕ) → i < length paths → IsForced s given (exists_at (slice_index_or paths i []))
  pub more : limit + 1 < length paths

-- the verdict on claims that force no more paths than a limit, and none exactly where they force more
abbrev pub IsVerdictWithin : System → (Claim → Type 0) → ℕ → Option Verdict → Type 0
IsVerdictWithin s given limit None = HasMoreForced s given limit
IsVerdictWithin s given limit (Some v) = IsVerdict s given v × (HasMoreForced s given limit → ⊥)

-- The law: there is one answer at most.
abbrev pub VerdictsWithinAreOne : Type 0
VerdictsWithinAreOne = (s : System) (source : Source) (limit : ℕ) (a b : Option Verdict) → IsVerdictWithin s (Told source) limit a → IsVerdictWithin s (Told source) limit b → a ≡ b
