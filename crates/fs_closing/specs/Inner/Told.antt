-- Facts that other facts tell.
use Rattle.std.specs.Prelude.{◌≡◌, ◌++◌}
use Rattle.fs_model.specs.Claims.{Path, Claim, exists_at, same, below}

-- a path goes on from another one, or is that one
abbrev pub GoesOn : Path → Path → Type 0
GoesOn p q = (rest : Path) × (q ≡ p ++ rest)

-- a claim speaks of a path that goes on from this one
abbrev pub SpeaksPast : Path → Claim → Type 0
SpeaksPast p (exists_at q) = GoesOn p q
SpeaksPast p (same o q) = GoesOn p q
SpeaksPast p (below q t) = GoesOn p q

-- that a path exists is told by what speaks of a path that goes on from it
abbrev pub IsTold : Claim → Claim → Type 0
IsTold (exists_at p) d = SpeaksPast p d
IsTold (same p q) d = ⊥
IsTold (below p t) d = ⊥
