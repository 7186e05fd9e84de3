-- Members of lists, and lists beside one another.
use Rattle.std.proofs.Common.{◌≡◌, Bool, true, false, cond, List, [], ◌∷◌, filter, refl, sym, ◌∙◌, ap, subst}
use Rattle.std.specs.List.{AllZip, flat_map}
use Rattle.fs_model.specs.Claims.{Has, here, there}
use Rattle.type_facts.proofs.ListLemmas.{Has-left, Has-right}

pub has-filter : {X : Type 0} (p : X → Bool) (x : X) (xs : List X) → Has x xs → p x ≡ true → Has x (filter p xs)
has-filter p x [] h e = elim h [ ]
has-filter p x (_ ∷ ys) here e = subst (λ b. Has x (cond b (x ∷ filter p ys) (filter p ys))) (sym e) here
has-filter p x (y ∷ ys) (there h) e = by_cases (p y) (has-filter p x ys h e)
  where
    by_cases : (b : Bool) → Has x (filter p ys) → Has x (cond b (y ∷ filter p ys) (filter p ys))
    by_cases true k = there k
    by_cases false k = k

pub has-flat : {X Y : Type 0} (f : X → List Y) (x : X) (y : Y) (xs : List X) → Has x xs → Has y (f x) → Has y (flat_map f xs)
has-flat f x y [] h k = elim h [ ]
has-flat f x y (_ ∷ ys) here k = Has-left y (f x) (flat_map f ys) k
has-flat f x y (z ∷ ys) (there h) k = Has-right y (f z) (flat_map f ys) (has-flat f x y ys h k)

-- what stands beside a member
pub zip-of : {A B : Type 0} (R : A → B → Type 0) (x : A) (xs : List A) (ys : List B) → Has x xs → AllZip R xs ys → (y : B) × R x y
zip-of R x [] ys h z = elim h [ ]
zip-of R x (w ∷ xs) [] h z = absurd z
zip-of R x (_ ∷ xs) (y ∷ ys) here z = (y, z.0)
zip-of R x (w ∷ xs) (y ∷ ys) (there h) z = zip-of R x xs ys h z.1

-- where each member has one thing beside it, there is one list beside the list
pub zip-one : {A B : Type 0} (R : A → B → Type 0) → ((x : A) (y z : B) → R x y → R x z → y ≡ z) → (xs : List A) (ys zs : List B) → AllZip R xs ys → AllZip R xs zs → ys ≡ zs
zip-one R one [] [] [] a b = refl
zip-one R one [] [] (z ∷ zs) a b = absurd b
zip-one R one [] (y ∷ ys) zs a b = absurd a
zip-one R one (x ∷ xs) [] zs a b = absurd a
zip-one R one (x ∷ xs) (y ∷ ys) [] a b = absurd b
zip-one R one (x ∷ xs) (y ∷ ys) (z ∷ zs) a b = let rest : ys ≡ zs = zip-one R one xs ys zs a.1 b.1 in ap (λ w. w ∷ ys) (one x y z a.0 b.0) ∙ ap (λ ws. z ∷ ws) rest
