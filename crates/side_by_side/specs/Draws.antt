-- What is drawn, and the rule of the draw.
use Rattle.std.specs.Prelude.{◌≡◌, ℕ, ◌+◌, ◌^◌, ◌<◌, ◌≤◌, ◌==◌, nat_lt, if◌then◌else◌, List, [], ◌∷◌, length}
use mathlib.Core.Option.{some}
use lib.ListN.{get_elem?}
use Rattle.atomic_table.specs.Table.{State}
use Rattle.side_by_side.specs.declared.draw_hand.Hand.{Hand}

-- this number of each, added up
abbrev pub total : {A : Type 0} → (A → ℕ) → List A → ℕ
total f [] = 0
total f (x ∷ xs) = f x + total f xs

abbrev pub is : ℕ → ℕ → ℕ
is x y = if x == y then 1 else 0

-- how often a number stands in a list
abbrev pub times : ℕ → List ℕ → ℕ
times x [] = 0
times x (y ∷ ys) = is x y + times x ys

-- once where the number is below n, else not at all: how often a number stands among those below n
abbrev pub once_below : ℕ → ℕ → ℕ
once_below x n = if nat_lt x n then 1 else 0

-- What the rule says of a seat. One that stands for no worker has drawn nothing, and a worker draws no more once it drew a number that is
-- no place.
pub record Fits (count : ℕ) (v : Hand) : Type 0 where
  pub idle : v.hands ≡ 0 → length v.drawn ≡ 0
  pub over : v.over ≤ v.hands
  pub count_is : 0 < v.hands → v.count ≡ count

-- What all seats drew are the numbers below `drawn`, each once and none left out, and the one word is `drawn`. So few are drawn past the
-- places that the word never wraps.
pub record Given {S : Type 0} (count seats : ℕ) (s : State S Hand) : Type 0 where
  pub drawn : ℕ
  pub words : s.words ≡ drawn ∷ []
  pub few : count + seats < 2 ^ 64
  pub hands : total (λ (v : Hand). v.hands) s.views ≡ seats
  pub bound : drawn ≤ count + total (λ (v : Hand). v.over) s.views
  pub all : total (λ (v : Hand). length v.drawn) s.views ≡ drawn
  pub once : (x : ℕ) → total (λ (v : Hand). times x v.drawn) s.views ≡ once_below x drawn
  pub each : (i : ℕ) (v : Hand) → get_elem? s.views i ≡ some v → Fits count v
