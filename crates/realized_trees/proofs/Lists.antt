-- Members of lists.
use Rattle.std.specs.Prelude.{◌≡◌, List, [], ◌∷◌, map}
use Rattle.std.proofs.Common.{refl, subst, arith, zero, suc}
use Rattle.std.specs.List.{Contains}
use Rattle.std.specs.List.Sorted.{IsPermutation}
use Rattle.std.proofs.lemmas.List.Sorted.{Contains-permutation}
use Rattle.fs_model.specs.Claims.{Has, here, there}

has_contains : {A : Type 0} {x : A} {xs : List A} → Has x xs → Contains xs x
has_contains here = (0, omega arith, refl)
has_contains (there h) = let r = has_contains h in (suc r.0, (let lt = r.1 in omega (arith, lt)), r.2)

contains_has : {A : Type 0} (xs : List A) (x : A) → Contains xs x → Has x xs
contains_has [] x c = absurd (let lt = c.1 in omega (arith, lt))
contains_has (y ∷ ys) x (zero, lt, e) = subst (λ z. Has z (y ∷ ys)) e here
contains_has (y ∷ ys) x (suc k, lt, e) = there (contains_has ys x (k, omega (arith, lt), e))

pub has_moved : {A : Type 0} (xs ys : List A) (x : A) → IsPermutation xs ys → Has x xs → Has x ys
has_moved xs ys x p h = contains_has ys x (Contains-permutation xs ys x p (has_contains h))

pub has_map : {A B : Type 0} (f : A → B) {x : A} {xs : List A} → Has x xs → Has (f x) (map f xs)
has_map f here = here
has_map f (there h) = there (has_map f h)

pub map_has : {A B : Type 0} (f : A → B) (xs : List A) {y : B} → Has y (map f xs) → (x : A) × Has x xs × (f x ≡ y)
map_has f [] h = elim h [ ]
map_has f (x ∷ xs) here = (x, here, refl)
map_has f (x ∷ xs) (there h) = let r = map_has f xs h in (r.0, there r.1, r.2)
