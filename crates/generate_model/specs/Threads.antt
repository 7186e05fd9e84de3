-- Lists that are appended: what a rule does that gathers the relations of its daughters.
use Rattle.std.specs.Prelude.{ℕ, ◌≡◌, ◌+◌, ◌<◌, ◌≤◌, None, List, [], ◌∷◌, ◌++◌}
use Rattle.std.proofs.Common.{zero, suc}
use Rattle.fs_model.specs.Claims.{Path, Claim, exists_at, same, below, System}
use Rattle.fs_model.specs.Closure.{Closure, AreConsistent}

-- a feature so many times
abbrev pub times : ℕ → ℕ → Path
times f zero = []
times f (suc n) = f ∷ times f n

-- an open list: where it begins, where it ends
pub record Open : Type 0 where
  pub start : Path
  pub end : Path

-- its end is reached from its beginning by REST in so many steps
abbrev pub Reaches : (Claim → Type 0) → ℕ → Open → ℕ → Type 0
Reaches claims rest l n = claims (same (l.start ++ times rest n) l.end)

-- from a path to a path these lists follow one another, so long each
pub data Threads (claims : Claim → Type 0) (rest : ℕ) : Path → List (Open × ℕ) → Path → Type 0 where
  threads_none : {a b : Path} → claims (same a b) → Threads claims rest a [] b
  threads_next : {a b : Path} {l : Open} {n : ℕ} {ls : List (Open × ℕ)} → claims (same a l.start) → Reaches claims rest l n → Threads claims rest l.end ls b → Threads claims rest a ((l, n) ∷ ls) b

abbrev pub total : List (Open × ℕ) → ℕ
total [] = 0
total ((l, n) ∷ ls) = n + total ls

-- a list of the thread, and how many cells stand before it
pub data Stands (l : Open) (n : ℕ) : ℕ → List (Open × ℕ) → Type 0 where
  stands_here : {ls : List (Open × ℕ)} → Stands l n 0 ((l, n) ∷ ls)
  stands_there : {m : ℕ} {k : Open} {before : ℕ} {ls : List (Open × ℕ)} → Stands l n before ls → Stands l n (m + before) ((k, m) ∷ ls)

-- In a closure what threads reaches its end, and each cell of each list is the cell of the whole at its place.
abbrev pub ThreadsReach : Type 1
ThreadsReach = (s : System) (given : Claim → Type 0) (rest : ℕ) (a b : Path) (ls : List (Open × ℕ)) → Threads (Closure s given) rest a ls b →
    Reaches (Closure s given) rest (record { start = a; end = b }) (total ls)
    × ((l : Open) (n before j : ℕ) → Stands l n before ls → j ≤ n → Closure s given (same (l.start ++ times rest j) (a ++ times rest (before + j))))

-- So what is claimed of the elements of a list of the thread is claimed of those of the whole.
abbrev pub ElementsStay : Type 1
ElementsStay = (s : System) (given : Claim → Type 0) (rest : ℕ) (a b : Path) (ls : List (Open × ℕ)) → Threads (Closure s given) rest a ls b →
    (l : Open) (n before : ℕ) → Stands l n before ls →
    ((j : ℕ) (q : Path) → j ≤ n → Closure s given (exists_at ((l.start ++ times rest j) ++ q)) → Closure s given (exists_at ((a ++ times rest (before + j)) ++ q)))
    × ((i j : ℕ) (p q : Path) → i ≤ n → j ≤ n → Closure s given (same ((l.start ++ times rest i) ++ p) ((l.start ++ times rest j) ++ q)) →
    Closure s given (same ((a ++ times rest (before + i)) ++ p) ((a ++ times rest (before + j)) ++ q)))
    × ((j : ℕ) (q : Path) (t : ℕ) → j ≤ n → Closure s given (below ((l.start ++ times rest j) ++ q) t) → Closure s given (below ((a ++ times rest (before + j)) ++ q) t))

-- The walk over a list that reaches its end doesn't end before: no cell before is the end, since a path would be too long, and none is
-- at or below the null type, where that has no meet with the introducer of REST.
abbrev pub WalksAreWhole : Type 1
WalksAreWhole = (s : System) (given : Claim → Type 0) (rest null : ℕ) (l : Open) (n : ℕ) → AreConsistent s (Closure s given) → s.meet null (s.introducer rest) ≡ None →
    Reaches (Closure s given) rest l n → (i : ℕ) → i < n →
    (Closure s given (same (l.start ++ times rest i) l.end) → ⊥) × (Closure s given (below (l.start ++ times rest i) null) → ⊥)
