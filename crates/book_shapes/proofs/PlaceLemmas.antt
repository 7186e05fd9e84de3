-- Places of a list before which all elements meet something.
use Rattle.std.proofs.Common.{ℕ, zero, suc, ◌≡◌, ◌<◌, ◌≤◌, ◌+◌, ◌⊎◌, inl, inr, Bool, true, false, List, [], ◌∷◌, length, map, get_or, Some, None, refl, sym, ◌∙◌, ap, subst, arith}
use Rattle.std.specs.Prelude.{slice_get}
use Rattle.std.specs.Option.{option_map}
use Rattle.std.proofs.lemmas.Bool.{cases_lt}
use Rattle.std.proofs.lemmas.Option.{slice_get-map, slice_get_within, slice_get_read}
use Rattle.lexicon.specs.Words.{Each}
use Rattle.book_shapes.specs.Shapes.{IsFirstPlace}

pub clash : {A : Type 0} (b : Bool) → b ≡ true → b ≡ false → A
clash b t f = let e : true ≡ false = sym t ∙ f in cc

-- what an element of a list is seen as
pub seen_at : {A B : Type 0} (f : A → B) (xs : List A) (i : ℕ) (x : A) → i < length xs → x ≡ get_or xs i x → slice_get (map f xs) i ≡ Some (f x)
seen_at f xs i x h e = slice_get-map f xs i ∙ ap (option_map f) (slice_get_read xs (length xs) i x refl h e)

pub each_at : {A : Type 0} (P : A → Type 0) (xs : List A) (i : ℕ) (y : A) → Each P xs → slice_get xs i ≡ Some y → P y
each_at P [] i y h e = absurd (let z : None ≡ Some y = e in cc)
each_at P (x ∷ xs) zero y h e = let z : Some x ≡ Some y = e in let s : x ≡ y = cc in subst P s h.0
each_at P (x ∷ xs) (suc i) y h e = each_at P xs i y h.1 e

-- all elements before a place meet P
abbrev pub Before : {A : Type 0} → (A → Type 0) → List A → ℕ → Type 0
Before {A} P xs i = (j : ℕ) (x : A) → j < i → slice_get xs j ≡ Some x → P x

pub before_none : {A : Type 0} (P : A → Type 0) (xs : List A) → Before P xs 0
before_none P xs = λ j x h e. absurd (omega (arith, h))

pub before_next : {A : Type 0} (P : A → Type 0) (xs : List A) (i : ℕ) (y : A) → slice_get xs i ≡ Some y → P y → Before P xs i → Before P xs (i + 1)
before_next {A} P xs i y at p before = λ j x h e. go j x (cases_lt j i) h e
  where
    go : (j : ℕ) (x : A) → (j < i) ⊎ (i ≤ j) → j < i + 1 → slice_get xs j ≡ Some x → P x
    go j x (inl l) h e = before j x l e
    go j x (inr l) h e =
        let same : i ≡ j = omega (arith, l, h) in
        let z : Some y ≡ Some x = sym at ∙ ap (slice_get xs) same ∙ e in
        let s : y ≡ x = cc in
        subst P s p

pub first_here : {A : Type 0} (P : A → Type 0) (xs : List A) (i : ℕ) (y : A) → slice_get xs i ≡ Some y → (P y → ⊥) → Before P xs i → IsFirstPlace P xs i
first_here P xs i y at not before =
    record {
      within = omega (arith, slice_get_within xs i y at);
      before = before;
      fails = λ x e p. not (let z : Some x ≡ Some y = sym e ∙ at in let s : x ≡ y = cc in subst P s p);
    }

pub first_past : {A : Type 0} (P : A → Type 0) (xs : List A) (i k : ℕ) → k ≡ length xs → k ≤ i → Before P xs i → IsFirstPlace P xs k
first_past P xs i k all past before =
    record {
      within = omega (arith, all);
      before = λ j x h e. before j x (omega (arith, h, past)) e;
      fails = λ x e p. omega (arith, all, slice_get_within xs k x e);
    }
