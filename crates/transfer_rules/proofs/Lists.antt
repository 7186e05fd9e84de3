-- Members of lists, and lists in pairs.
use Rattle.std.proofs.Common.{◌≡◌, ◌≢◌, ℕ, ◌∙◌, ◌⊎◌, inl, inr, Bool, true, false, List, [], ◌∷◌, ◌++◌, Some, refl, ap, subst, get_or}
use Rattle.std.specs.List.{All, AllZip, Any, Contains, flat_map, slice_get}
use Rattle.std.specs.Str.{bytes_eq}
use Rattle.std.proofs.lemmas.List.Elements.{Contains-get_or, Contains-append_cases, Contains-append_left, All-contains, All-head, All-tail, All-cons, All-nil}
use Rattle.std.proofs.lemmas.Option.{slice_get_within, slice_get-get_or, get_or_from_slice_get}
use Rattle.std.proofs.lemmas.Slice.Eq.{bytes_eq-Decides}
use Rattle.mrs_reading.proofs.Predicated.{nothing_in}
use Rattle.mrs_reading.proofs.Moves.{first_or_other, is_first, is_other}

pub any_by : {X : Type 0} (P : X → Type 0) (xs : List X) (x : X) → Contains xs x → P x → Any P xs
any_by P xs x h p = (h.0, x, h.1, h.2, p)

pub some_of : {X : Type 0} (P : X → Type 0) (xs : List X) → Any P xs → (x : X) × Contains xs x × P x
some_of P xs h = (h.1, (h.0, h.2, h.3), h.4)

pub all_by : {X : Type 0} (P : X → Type 0) (xs : List X) → ((x : X) → Contains xs x → P x) → All P xs
all_by P xs f = λ k d l. f (get_or xs k d) (Contains-get_or xs k d l)

pub at_of : {X : Type 0} (xs : List X) (x : X) (h : Contains xs x) → slice_get xs h.0 ≡ Some x
at_of xs x h = slice_get-get_or xs h.0 x h.1 ∙ ap Some h.2

pub in_of : {X : Type 0} (xs : List X) (k : ℕ) (x : X) → slice_get xs k ≡ Some x → Contains xs x
in_of xs k x e = (k, slice_get_within xs k x e, get_or_from_slice_get xs k x x e)

-- what is gathered from a list comes from one of its elements
pub flat_in : {X A : Type 0} (f : X → List A) (xs : List X) (y : A) → Contains (flat_map f xs) y → (x : X) × Contains xs x × Contains (f x) y
flat_in f [] y h = absurd (nothing_in y h)
flat_in f (x ∷ xs) y h = elim (Contains-append_cases (f x) (flat_map f xs) y h) [
  | inl a ↦ (x, is_first x xs, a)
  | inr a ↦ (let w = flat_in f xs y a in (w.0, is_other x xs w.0 w.1, w.2))
]

-- what a feature has among the texts: one of it, or none
pub bools : (b : Bool) → (b ≡ true) ⊎ (b ≡ false)
bools true = inl refl
bools false = inr refl

pub true_not_false : (b : Bool) → b ≡ true → b ≡ false → ⊥
true_not_false true e f = let g : true ≡ false = f in absurd (cc)
true_not_false false e f = let g : false ≡ true = e in absurd (cc)

pub named_or_not : {X : Type 0} (name : X → List ℕ) (n : List ℕ) (xs : List X) → Any (λ x. name x ≡ n) xs ⊎ All (λ x. name x ≢ n) xs
named_or_not name n [] = inr (All-nil (λ x. name x ≢ n))
named_or_not name n (x ∷ xs) = elim (bools (bytes_eq (name x) n)) [
  | inl e ↦ inl (any_by (λ y. name y ≡ n) (x ∷ xs) x (is_first x xs) ((bytes_eq-Decides (name x) n).0 e))
  | inr e ↦ (elim (named_or_not name n xs) [
    | inl h ↦ (let w = some_of (λ y. name y ≡ n) xs h in inl (any_by (λ y. name y ≡ n) (x ∷ xs) w.0 (is_other x xs w.0 w.1) w.2))
    | inr h ↦ inr (All-cons (λ y. name y ≢ n) x xs (λ q. true_not_false (bytes_eq (name x) n) ((bytes_eq-Decides (name x) n).1 q) e) h)
  ])
]

-- lists in pairs
pub zip_left : {A B : Type 0} (R : A → B → Type 0) (xs : List A) (ys : List B) → AllZip R xs ys → (x : A) → Contains xs x → (y : B) × Contains ys y × R x y
zip_left R [] ys h x m = absurd (nothing_in x m)
zip_left R (a ∷ xs) [] h x m = absurd h
zip_left R (a ∷ xs) (b ∷ ys) h x m = elim (first_or_other a xs x m) [
  | inl e ↦ (b, is_first b ys, subst (λ z. R z b) e h.0)
  | inr k ↦ (let w = zip_left R xs ys h.1 x k in (w.0, is_other b ys w.0 w.1, w.2))
]

pub zip_all : {A B : Type 0} (R : A → B → Type 0) (P : A → Type 0) (Q : B → Type 0) → ((x : A) (y : B) → P x → R x y → Q y) → (xs : List A) (ys : List B) → All P xs → AllZip R xs ys → All Q ys
zip_all R P Q f [] [] p h = All-nil Q
zip_all R P Q f [] (b ∷ ys) p h = absurd h
zip_all R P Q f (a ∷ xs) [] p h = absurd h
zip_all R P Q f (a ∷ xs) (b ∷ ys) p h = All-cons Q b ys (f a b (All-head P a xs p) h.0) (zip_all R P Q f xs ys (All-tail P a xs p) h.1)

both : {A : Type 0} (x y : A) (xs ys : List A) → x ≡ y → xs ≡ ys → x ∷ xs ≡ y ∷ ys
both x y xs ys e f = cc

pub zip_one : {A B : Type 0} (R : A → B → Type 0) (P : A → Type 0) → ((x : A) (y z : B) → P x → R x y → R x z → y ≡ z) → (xs : List A) (ys zs : List B) → All P xs → AllZip R xs ys → AllZip R xs zs → ys ≡ zs
zip_one R P f [] [] [] p h k = refl
zip_one R P f [] [] (c ∷ zs) p h k = absurd k
zip_one R P f [] (b ∷ ys) zs p h k = absurd h
zip_one R P f (a ∷ xs) [] zs p h k = absurd h
zip_one R P f (a ∷ xs) (b ∷ ys) [] p h k = absurd k
zip_one R P f (a ∷ xs) (b ∷ ys) (c ∷ zs) p h k = both b c ys zs (f a b c (All-head P a xs p) h.0 k.0) (zip_one R P f xs ys zs (All-tail P a xs p) h.1 k.1)

pub zip_append : {A B : Type 0} (R : A → B → Type 0) (xs : List A) (ys : List B) (us : List A) (vs : List B) → AllZip R xs ys → AllZip R us vs → AllZip R (xs ++ us) (ys ++ vs)
zip_append R [] [] us vs h k = k
zip_append R [] (b ∷ ys) us vs h k = absurd h
zip_append R (a ∷ xs) [] us vs h k = absurd h
zip_append R (a ∷ xs) (b ∷ ys) us vs h k = (h.0, zip_append R xs ys us vs h.1 k)

pub zip_right : {A B : Type 0} (R : A → B → Type 0) (xs : List A) (ys : List B) → AllZip R xs ys → (y : B) → Contains ys y → (x : A) × Contains xs x × R x y
zip_right R xs [] h y m = absurd (nothing_in y m)
zip_right R [] (b ∷ ys) h y m = absurd h
zip_right R (a ∷ xs) (b ∷ ys) h y m = elim (first_or_other b ys y m) [
  | inl e ↦ (a, is_first a xs, subst (λ z. R a z) e h.0)
  | inr k ↦ (let w = zip_right R xs ys h.1 y k in (w.0, is_other a xs w.0 w.1, w.2))
]

pub all_left : {X : Type 0} (P : X → Type 0) (xs ys : List X) → All P (xs ++ ys) → All P xs
all_left P xs ys h = all_by P xs (λ x m. All-contains P (xs ++ ys) x h (Contains-append_left xs ys x m))

pub all_right : {X : Type 0} (P : X → Type 0) (xs ys : List X) → All P (xs ++ ys) → All P ys
all_right P [] ys h = h
all_right P (x ∷ xs) ys h = all_right P xs ys (All-tail P x (xs ++ ys) h)
