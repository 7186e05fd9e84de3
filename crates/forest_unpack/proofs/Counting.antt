-- Lists of trees that hold the numbers of their words.
use Rattle.std.specs.Prelude.{◌≡◌, List, [], ◌∷◌, ◌++◌, map, refl}
use Rattle.std.proofs.Common.{ap}
use Rattle.derivation.specs.declared.Tree.{Tree}
use Rattle.derivation.specs.Counted.{IsCounted, AreCounted}

pub counted_push : (ts : List Tree) (t : Tree) → AreCounted ts → IsCounted t → AreCounted (ts ++ t ∷ [])
counted_push [] t are is = (is, tt)
counted_push (u ∷ us) t are is = (are.0, counted_push us t are.1 is)

pub same_map : {A : Type 0} (xs : List A) → map (λ y. y) xs ≡ xs
same_map [] = refl
same_map (x ∷ xs) = ap (λ ys. x ∷ ys) (same_map xs)
