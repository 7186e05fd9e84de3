-- On lists in order.
use Rattle.std.proofs.Common.{◌≡◌, List, [], ◌∷◌, map, refl, ap}
use Rattle.std.specs.declared.cmp.Ordering.{Ordering}
use Rattle.std.specs.Cmp.Lexicographic.{slice_cmp}
use Rattle.std.specs.Ordering.{on, ordering_then}

-- to compare by what is read off each is to compare what is read off
pub slice_cmp-on : {A B : Type 0} (R : B → B → Ordering) (f : A → B) (xs ys : List A) → slice_cmp (on f R) xs ys ≡ slice_cmp R (map f xs) (map f ys)
slice_cmp-on R f [] [] = refl
slice_cmp-on R f [] (y ∷ ys) = refl
slice_cmp-on R f (x ∷ xs) [] = refl
slice_cmp-on R f (x ∷ xs) (y ∷ ys) = ap (ordering_then (R (f x) (f y))) (slice_cmp-on R f xs ys)
