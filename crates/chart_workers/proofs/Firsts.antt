-- A list with elements has a first.
use Rattle.std.proofs.Common.{◌≡◌, ◌<◌, List, [], ◌∷◌, length, refl, arith}
use mathlib.Core.Option.{some}
use lib.ListN.{get_elem?}

pub first_there : {A : Type 0} (l : List A) → 0 < length l → (a : A) × (get_elem? l 0 ≡ some a)
first_there [] p = absurd (omega arith)
first_there (x ∷ xs) p = (x, refl)
