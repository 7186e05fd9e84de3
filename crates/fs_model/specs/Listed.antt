-- The closure with the rule of inference as a list: where some of the types at a path, one or more, have a meet at or
-- below a written type, the path's type is at or below that type, and the type's facts hold at the path.
use Rattle.std.specs.Prelude.{ℕ, ◌≡◌, ◌≤◌, ◌↔◌, Bool, true, Option, Some, None, List, [], ◌∷◌, ◌++◌, length}
use Rattle.fs_model.specs.Claims.{Path, Claim, exists_at, same, below, at, System, Has}
use Rattle.fs_model.specs.Closure.{Closure, IsConsistent}

-- the meet of a type and a list of types
abbrev pub meet_all : System → ℕ → List ℕ → Option ℕ
meet_all s t [] = Some t
meet_all s t (u ∷ us) = elim (s.meet t u) [ None ↦ None | Some m ↦ meet_all s m us ]

pub data Inferred (s : System) (written : ℕ → Bool) (given : Claim → Type 0) : Claim → Type 0 where
  given_one : (c : Claim) → given c → Inferred s written given c
  -- what a claim speaks of exists, and so does every prefix of a path
  exists_same : (p q : Path) → Inferred s written given (same p q) → Inferred s written given (exists_at p)
  exists_below : (p : Path) (t : ℕ) → Inferred s written given (below p t) → Inferred s written given (exists_at p)
  exists_prefix : (p q : Path) → Inferred s written given (exists_at (p ++ q)) → Inferred s written given (exists_at p)
  -- equality is an equivalence; equal paths have equal extensions and the same types
  itself : (p : Path) → Inferred s written given (exists_at p) → Inferred s written given (same p p)
  back : (p q : Path) → Inferred s written given (same p q) → Inferred s written given (same q p)
  on : (p q r : Path) → Inferred s written given (same p q) → Inferred s written given (same q r) → Inferred s written given (same p r)
  extension : (p q r : Path) → Inferred s written given (same p q) → Inferred s written given (exists_at (p ++ r)) →
      Inferred s written given (same (p ++ r) (q ++ r))
  type : (p q : Path) (t : ℕ) → Inferred s written given (same p q) → Inferred s written given (below p t) → Inferred s written given (below q t)
  -- a feature at a path puts the path's type at or below the feature's introducer
  feature : (p : Path) (f : ℕ) → Inferred s written given (exists_at (p ++ f ∷ [])) → Inferred s written given (below p (s.introducer f))
  -- the rule of inference: a type, and the facts of that type
  inference : (p : Path) (t m w : ℕ) (us : List ℕ) → Inferred s written given (below p t) →
      ((u : ℕ) → Has u us → Inferred s written given (below p u)) → meet_all s t us ≡ Some m → s.is_below m w ≡ true →
      written w ≡ true → Inferred s written given (below p w)
  facts : (p : Path) (t m w : ℕ) (us : List ℕ) (c : Claim) → Inferred s written given (below p t) →
      ((u : ℕ) → Has u us → Inferred s written given (below p u)) → meet_all s t us ≡ Some m → s.is_below m w ≡ true →
      written w ≡ true → Has c (s.facts_of w) → Inferred s written given (at p c)

-- the types at each path, if any, have a meet, and no path is too long
pub record IsListConsistent (s : System) (written : ℕ → Bool) (given : Claim → Type 0) : Type 0 where
  pub typed : (p : Path) (t : ℕ) (us : List ℕ) → Inferred s written given (below p t) →
      ((u : ℕ) → Has u us → Inferred s written given (below p u)) → (m : ℕ) × (meet_all s t us ≡ Some m)
  pub bounded : (p : Path) → Inferred s written given (exists_at p) → length p ≤ s.path_limit

-- a type is at or below all types at a path
abbrev pub IsUnderAll : System → (Claim → Type 0) → Path → ℕ → Type 0
IsUnderAll s closure p u = (t : ℕ) → closure (below p t) → s.is_below u t ≡ true

-- the closure and the one by lists agree: in what is consistent, and then in the paths, the equalities and the meets
pub record FormsAgree (s : System) (written : ℕ → Bool) (given : Claim → Type 0) : Type 0 where
  pub consistent : IsConsistent s given ↔ IsListConsistent s written given
  pub paths : IsConsistent s given → (p : Path) → Closure s given (exists_at p) ↔ Inferred s written given (exists_at p)
  pub equalities : IsConsistent s given → (p q : Path) → Closure s given (same p q) ↔ Inferred s written given (same p q)
  pub meets : IsConsistent s given → (p : Path) (u : ℕ) →
      IsUnderAll s (Closure s given) p u ↔ IsUnderAll s (Inferred s written given) p u
