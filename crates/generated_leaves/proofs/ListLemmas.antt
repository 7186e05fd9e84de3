-- Lists that are gone along together.
use Rattle.std.proofs.Common.{ℕ, zero, suc, ◌≡◌, ◌+◌, ◌<◌, List, [], ◌∷◌, ◌++◌, length, map, take, get_or, Some, None, Vec, String, string_bytes, sym, ◌∙◌, ap, subst, refl, arith}
use Rattle.std.specs.Prelude.{slice_get}
use Rattle.std.specs.Global.{Global}
use Rattle.std.specs.List.{AllZip}
use Rattle.std.proofs.lemmas.List.{map-append, take_more}
use Rattle.generate_model.specs.Bags.{Word}

zip_more : {A B : Type 0} (R : A → B → Type 0) (xs : List A) (ys : List B) (x : A) (y : B) → AllZip R xs ys → R x y → AllZip R (xs ++ x ∷ []) (ys ++ y ∷ [])
zip_more R [] [] x y h r = (r, tt)
zip_more R [] (b ∷ ys) x y h r = absurd h
zip_more R (a ∷ xs) [] x y h r = absurd h
zip_more R (a ∷ xs) (b ∷ ys) x y h r = (h.0, zip_more R xs ys x y h.1 r)

-- the words of a list of texts
abbrev pub words_of : Vec (String Global) Global → List Word
words_of v = map string_bytes v.items

-- one rule more
pub given_more : (R : ℕ → List Word → Type 0) (places : List ℕ) (k d : ℕ) (old new : List (Vec (String Global) Global)) (v : Vec (String Global) Global) → k < length places → new ≡ old ++ v ∷ [] → R (get_or places k d) (words_of v) →
    AllZip R (take k places) (map words_of old) → AllZip R (take (k + 1) places) (map words_of new)
given_more R places k d old new v lt e r h =
    let left : take (k + 1) places ≡ take k places ++ get_or places k d ∷ [] = take_more places k d lt in
    let right : map words_of new ≡ map words_of old ++ words_of v ∷ [] = ap (map words_of) e ∙ map-append words_of old (v ∷ []) in
    subst (λ l. AllZip R l (map words_of new)) (sym left) (subst (λ l. AllZip R (take k places ++ get_or places k d ∷ []) l) (sym right) (zip_more R (take k places) (map words_of old) (get_or places k d) (words_of v) h r))

pub zip_unmapped : {A B C : Type 0} (R : B → C → Type 0) (f : A → B) (xs : List A) (ys : List C) → AllZip R (map f xs) ys → AllZip (λ x y. R (f x) y) xs ys
zip_unmapped R f [] [] h = tt
zip_unmapped R f [] (y ∷ ys) h = absurd h
zip_unmapped R f (x ∷ xs) [] h = absurd h
zip_unmapped R f (x ∷ xs) (y ∷ ys) h = (h.0, zip_unmapped R f xs ys h.1)

-- what stands beside an element
pub record Beside {A B : Type 0} (R : A → B → Type 0) (ys : List B) (n : ℕ) (x : A) : Type 0 where
  pub value : B
  pub at : slice_get ys n ≡ Some value
  pub is : R x value

pub zip_at : {A B : Type 0} (R : A → B → Type 0) (xs : List A) (ys : List B) (n : ℕ) (x : A) → AllZip R xs ys → slice_get xs n ≡ Some x → Beside R ys n x
zip_at R [] ys n x h e = absurd (cc)
zip_at R (a ∷ xs) [] n x h e = absurd h
zip_at R (a ∷ xs) (b ∷ ys) zero x h e = record { value = b; at = refl; is = (let z : a ≡ x = cc in subst (λ w. R w b) z h.0) }
zip_at R (a ∷ xs) (b ∷ ys) (suc n) x h e = let z = zip_at R xs ys n x h.1 e in record { value = z.value; at = z.at; is = z.is }

pub mapped_get : {A B : Type 0} (f : A → B) (xs : List A) (n : ℕ) (x : A) → slice_get xs n ≡ Some x → slice_get (map f xs) n ≡ Some (f x)
mapped_get f [] n x e = absurd (cc)
mapped_get f (y ∷ xs) zero x e = let z : y ≡ x = cc in ap (λ w. Some (f w)) z
mapped_get f (y ∷ xs) (suc n) x e = mapped_get f xs n x e

pub none_beside : {A B : Type 0} (xs : List A) (ys : List B) (n : ℕ) → length ys ≡ length xs → slice_get xs n ≡ None → slice_get ys n ≡ None
none_beside xs [] n l e = refl
none_beside [] (y ∷ ys) n l e = absurd (omega (arith, l))
none_beside (x ∷ xs) (y ∷ ys) zero l e = absurd (cc)
none_beside (x ∷ xs) (y ∷ ys) (suc n) l e = none_beside xs ys n (omega (arith, l)) e

pub some_beside : {A B : Type 0} (xs : List A) (ys : List B) (n : ℕ) (x : A) → length ys ≡ length xs → slice_get xs n ≡ Some x → (y : B) × (slice_get ys n ≡ Some y)
some_beside [] ys n x l e = absurd (cc)
some_beside (a ∷ xs) [] n x l e = absurd (omega (arith, l))
some_beside (a ∷ xs) (y ∷ ys) zero x l e = (y, refl)
some_beside (a ∷ xs) (y ∷ ys) (suc n) x l e = some_beside xs ys n x (omega (arith, l)) e
