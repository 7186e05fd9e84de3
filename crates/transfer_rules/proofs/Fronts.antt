-- Lists that are read from front to back, as long as each part is in form.
use Rattle.std.proofs.Common.{◌≡◌, ◌≢◌, ℕ, zero, suc, ◌+◌, ◌∙◌, ◌<◌, ◌≤◌, inl, inr, Bool, true, false, cond, List, [], ◌∷◌, ◌++◌, Option, Some, None, refl, ap, sym, subst, length, get_or, take, drop, arith}
use Rattle.std.specs.Option.{is_some, option_map}
use Rattle.std.specs.List.{Contains, slice_get}
use Rattle.std.specs.Str.{bytes_eq}
use Rattle.std.proofs.lemmas.List.{append_assoc, append-nil}
use Rattle.std.proofs.lemmas.Slice.Eq.{bytes_eq-Decides}
use Rattle.mrs_reading.proofs.Moves.{is_first, is_other, first_or_other}
use Rattle.mrs_reading.proofs.Predicated.{nothing_in}
use Rattle.mrs_reading.proofs.Tabled.{get_front}
use Rattle.transfer_rules.specs.Features.{Feature, DifferInName, together}
use Rattle.transfer_rules.specs.Forms.{value_at}
use Rattle.transfer_rules.proofs.Lists.{at_of, in_of, bools, true_not_false}
use Rattle.transfer_rules.proofs.Numbering.{get_cases}

pub drop_at : {A : Type 0} (xs : List A) (i : ℕ) (a : A) → i < length xs → a ≡ get_or xs i a → drop i xs ≡ a ∷ drop (i + 1) xs
drop_at xs i a l e = step xs i a l e ∙ ap (λ k. a ∷ drop k xs) (let f : suc i ≡ i + 1 = omega arith in f)
  where
    step : {A : Type 0} (xs : List A) (i : ℕ) (a : A) → i < length xs → a ≡ get_or xs i a → drop i xs ≡ a ∷ drop (suc i) xs
    step [] i a l e = absurd (omega (arith, l))
    step (x ∷ xs) zero a l e = ap (λ z. z ∷ xs) (sym e)
    step (x ∷ xs) (suc i) a l e = step xs i a (omega (arith, l)) e

pub take_at : {A : Type 0} (xs : List A) (i : ℕ) (a : A) → i < length xs → a ≡ get_or xs i a → take (i + 1) xs ≡ take i xs ++ a ∷ []
take_at xs i a l e = ap (λ k. take k xs) (let f : i + 1 ≡ suc i = omega arith in f) ∙ step xs i a l e
  where
    step : {A : Type 0} (xs : List A) (i : ℕ) (a : A) → i < length xs → a ≡ get_or xs i a → take (suc i) xs ≡ take i xs ++ a ∷ []
    step [] i a l e = absurd (omega (arith, l))
    step (x ∷ xs) zero a l e = ap (λ z. z ∷ []) (sym e)
    step (x ∷ xs) (suc i) a l e = ap (λ z. x ∷ z) (step xs i a (omega (arith, l)) e)

pub parts_at : {A : Type 0} (xs : List A) (i : ℕ) (a : A) → i < length xs → a ≡ get_or xs i a → xs ≡ take i xs ++ a ∷ drop (i + 1) xs
parts_at xs i a l e = step xs i a l e ∙ ap (λ k. take i xs ++ a ∷ drop k xs) (let f : suc i ≡ i + 1 = omega arith in f)
  where
    step : {A : Type 0} (xs : List A) (i : ℕ) (a : A) → i < length xs → a ≡ get_or xs i a → xs ≡ take i xs ++ a ∷ drop (suc i) xs
    step [] i a l e = absurd (omega (arith, l))
    step (x ∷ xs) zero a l e = ap (λ z. z ∷ xs) (sym e)
    step (x ∷ xs) (suc i) a l e = ap (λ z. x ∷ z) (step xs i a (omega (arith, l)) e)

pub drop_end : {A : Type 0} (xs : List A) (i : ℕ) → length xs ≤ i → drop i xs ≡ []
drop_end [] zero l = refl
drop_end [] (suc i) l = refl
drop_end (x ∷ xs) zero l = absurd (omega (arith, l))
drop_end (x ∷ xs) (suc i) l = drop_end xs i (omega (arith, l))

module _ {A B : Type 0} (one : A → Option B) (whole : List A → Option (List B)) (step : (a : A) (xs : List A) → whole (a ∷ xs) ≡ together (one a) (whole xs)) where
  after : (old : List B) (b : B) (o : Option (List B)) → option_map (λ ys. old ++ ys) (together (Some b) o) ≡ option_map (λ ys. (old ++ b ∷ []) ++ ys) o
  after old b None = refl
  after old b (Some ys) = ap Some (sym (append_assoc old (b ∷ []) ys))

  pub read_more : (xs : List A) (i : ℕ) (a : A) (old : List B) (b : B) (t : Option (List B)) → i < length xs → a ≡ get_or xs i a → one a ≡ Some b → option_map (λ ys. old ++ ys) (whole (drop i xs)) ≡ t
      → option_map (λ ys. (old ++ b ∷ []) ++ ys) (whole (drop (i + 1) xs)) ≡ t
  read_more xs i a old b t l e o h =
      sym (after old b (whole (drop (i + 1) xs))) ∙ ap (λ z. option_map (λ ys. old ++ ys) (together z (whole (drop (i + 1) xs)))) (sym o)
      ∙ ap (option_map (λ ys. old ++ ys)) (sym (step a (drop (i + 1) xs))) ∙ ap (λ z. option_map (λ ys. old ++ ys) (whole z)) (sym (drop_at xs i a l e)) ∙ h

  pub read_none : (xs : List A) (i : ℕ) (a : A) (old : List B) (t : Option (List B)) → i < length xs → a ≡ get_or xs i a → one a ≡ None → option_map (λ ys. old ++ ys) (whole (drop i xs)) ≡ t → t ≡ None
  read_none xs i a old t l e o h =
      sym h ∙ ap (λ z. option_map (λ ys. old ++ ys) (whole z)) (drop_at xs i a l e) ∙ ap (option_map (λ ys. old ++ ys)) (step a (drop (i + 1) xs))
      ∙ ap (λ z. option_map (λ ys. old ++ ys) (together z (whole (drop (i + 1) xs)))) o

  pub read_end : (xs : List A) (i : ℕ) (old : List B) (t : Option (List B)) → length xs ≤ i → whole [] ≡ Some [] → option_map (λ ys. old ++ ys) (whole (drop i xs)) ≡ t → t ≡ Some old
  read_end xs i old t l n h = sym h ∙ ap (λ z. option_map (λ ys. old ++ ys) (whole z)) (drop_end xs i l) ∙ ap (option_map (λ ys. old ++ ys)) n ∙ ap Some (append-nil old)

-- features by name
pub value_in : (fs : List Feature) (name : List ℕ) → is_some (value_at name fs) ≡ true → (f : Feature) × Contains fs f × (f.name ≡ name)
value_in [] name e = absurd (let g : false ≡ true = e in cc)
value_in (f ∷ fs) name e = elim (bools (bytes_eq f.name name)) [
  | inl a ↦ (f, is_first f fs, (bytes_eq-Decides f.name name).0 a)
  | inr a ↦ (let w = value_in fs name (sym (ap (λ b. is_some (cond b (Some f.value) (value_at name fs))) a) ∙ e) in (w.0, is_other f fs w.0 w.1, w.2))
]

pub in_value : (fs : List Feature) (f : Feature) → Contains fs f → is_some (value_at f.name fs) ≡ true
in_value [] f h = absurd (nothing_in f h)
in_value (g ∷ fs) f h = elim (first_or_other g fs f h) [
  | inl e ↦ ap (λ b. is_some (cond b (Some g.value) (value_at f.name fs))) ((bytes_eq-Decides g.name f.name).1 (ap (λ (z : Feature). z.name) e))
  | inr k ↦ go (bytes_eq g.name f.name) (in_value fs f k)
]
  where
    go : (b : Bool) → is_some (value_at f.name fs) ≡ true → is_some (cond b (Some g.value) (value_at f.name fs)) ≡ true
    go true e = refl
    go false e = e

same_name_in : (fs : List Feature) (f g : Feature) → Contains fs g → g.name ≡ f.name → is_some (value_at f.name fs) ≡ true
same_name_in fs f g m e = subst (λ n. is_some (value_at n fs) ≡ true) e (in_value fs g m)

pub differ_end : (fs : List Feature) (f : Feature) → DifferInName fs → is_some (value_at f.name fs) ≡ false → DifferInName (fs ++ f ∷ [])
differ_end fs f d n i j g h a b e = elim (get_cases fs f i g a) [
  | inl x ↦ (elim (get_cases fs f j h b) [
    | inl y ↦ d i j g h x y e
    | inr y ↦ absurd (true_not_false (is_some (value_at f.name fs)) (same_name_in fs f g (in_of fs i g x) (e ∙ ap (λ (z : Feature). z.name) (sym y.1))) n)
  ])
  | inr x ↦ (elim (get_cases fs f j h b) [
    | inl y ↦ absurd (true_not_false (is_some (value_at f.name fs)) (same_name_in fs f h (in_of fs j h y) (sym e ∙ ap (λ (z : Feature). z.name) (sym x.1))) n)
    | inr y ↦ x.0 ∙ sym y.0
  ])
]

get_middle : {A : Type 0} (xs : List A) (x : A) (ys : List A) → slice_get (xs ++ x ∷ ys) (length xs) ≡ Some x
get_middle [] x ys = refl
get_middle (a ∷ xs) x ys = get_middle xs x ys

pub differ_stop : (fs : List Feature) (f : Feature) (rest : List Feature) → is_some (value_at f.name fs) ≡ true → DifferInName (fs ++ f ∷ rest) → ⊥
differ_stop fs f rest n d =
    let w = value_in fs f.name n in
    let i = d w.1.0 (length fs) w.0 f (get_front fs (f ∷ rest) w.1.0 w.0 (at_of fs w.0 w.1)) (get_middle fs f rest) w.2 in
    let l : w.1.0 < length fs = w.1.1 in
    absurd (omega (arith, i, l))

pub differ_front : (fs rest : List Feature) → DifferInName (fs ++ rest) → DifferInName fs
differ_front fs rest d i j f g a b e = d i j f g (get_front fs rest i f a) (get_front fs rest j g b) e

pub differ_new : (fs : List Feature) (f : Feature) (rest : List Feature) → DifferInName (fs ++ f ∷ rest) → (g : Feature) → Contains fs g → g.name ≢ f.name
differ_new fs f rest d g m e = differ_stop fs f rest (same_name_in fs f g m e) d

pub no_features : DifferInName []
no_features i j f g a b e = absurd (let h : None ≡ Some f = a in cc)
