-- The first that passes a test, part after part.
use Rattle.std.proofs.Common.{ℕ, ◌≡◌, ◌<◌, ◌+◌, Bool, true, false, Option, Some, None, List, ◌++◌, length, take, drop, get_or, refl, sym, ◌∙◌, ap}
use Rattle.std.specs.List.{flat_map, find}
use Rattle.std.specs.Option.{option_or, option_map}
use Rattle.std.specs.Prelude.{is_some}
use Rattle.std.proofs.lemmas.List.{take-append-drop}
use Rattle.std.proofs.lemmas.List.Concat.{flat_map-append}
use Rattle.std.proofs.lemmas.List.Folds.{find-append}
use Rattle.body_facts.proofs.Appended.{flat_map_next}

some_first : {A : Type 0} (x y z : Option A) → is_some x ≡ true → option_or (option_or x y) z ≡ x
some_first (Some a) y z h = refl
some_first None y z h = absurd (let e : false ≡ true = h in cc)

none_first : {A : Type 0} (x y : Option A) → x ≡ None → option_or x y ≡ y
none_first x y e = ap (λ o. option_or o y) e

no_some : {A : Type 0} (o : Option A) → is_some o ≡ false → o ≡ None
no_some None h = refl
no_some (Some a) h = absurd (let e : true ≡ false = h in cc)

pub some_of_map : {A B : Type 0} (f : A → B) (o : Option A) (b : Bool) → is_some o ≡ b → is_some (option_map f o) ≡ b
some_of_map f (Some a) b h = h
some_of_map f None b h = h

pub both_hit : {A : Type 0} (p : A → Bool) (o : Option A) (xs ys : List A) → o ≡ find p xs → is_some o ≡ true → o ≡ find p (xs ++ ys)
both_hit p o xs ys e h = sym (find-append p xs ys ∙ ap (λ z. option_or z (find p ys)) (sym e) ∙ some_or o (find p ys) h)
  where
    some_or : {A : Type 0} (x y : Option A) → is_some x ≡ true → option_or x y ≡ x
    some_or (Some a) y k = refl
    some_or None y k = absurd (let z : false ≡ true = k in cc)

pub both_miss : {A : Type 0} (p : A → Bool) (o r : Option A) (xs ys : List A) → o ≡ find p xs → is_some o ≡ false → r ≡ find p ys → r ≡ find p (xs ++ ys)
both_miss p o r xs ys e h f = f ∙ sym (find-append p xs ys ∙ none_first (find p xs) (find p ys) (sym e ∙ no_some o h))

pub hit : {X A : Type 0} (p : A → Bool) (S : X → List A) (xs : List X) (i : ℕ) (x : X) (o : Option A) → i < length xs → x ≡ get_or xs i x →
    find p (flat_map S (take i xs)) ≡ None → o ≡ find p (S x) → is_some o ≡ true → o ≡ find p (flat_map S xs)
hit p S xs i x o lt at none is some =
    both_hit p o (flat_map S (take (i + 1) xs)) (flat_map S (drop (i + 1) xs)) within some
    ∙ ap (find p) (sym (flat_map-append S (take (i + 1) xs) (drop (i + 1) xs)) ∙ ap (flat_map S) (take-append-drop (i + 1) xs))
  where
    within : o ≡ find p (flat_map S (take (i + 1) xs))
    within =
        is ∙ sym (ap (find p) (flat_map_next S xs i x lt at) ∙ find-append p (flat_map S (take i xs)) (S x) ∙ none_first _ (find p (S x)) none)

pub miss : {X A : Type 0} (p : A → Bool) (S : X → List A) (xs : List X) (i : ℕ) (x : X) (o : Option A) → i < length xs → x ≡ get_or xs i x →
    find p (flat_map S (take i xs)) ≡ None → o ≡ find p (S x) → is_some o ≡ false → find p (flat_map S (take (i + 1) xs)) ≡ None
miss p S xs i x o lt at none is some =
    ap (find p) (flat_map_next S xs i x lt at) ∙ find-append p (flat_map S (take i xs)) (S x) ∙ none_first _ (find p (S x)) none ∙ sym is ∙ no_some o some

pub both_none : {A : Type 0} (p : A → Bool) (o r : Option A) (xs ys : List A) → o ≡ find p xs → is_some o ≡ false → r ≡ find p ys → is_some r ≡ false → find p (xs ++ ys) ≡ None
both_none p o r xs ys e h f k = sym (both_miss p o r xs ys e h f) ∙ no_some r k
