-- The variables that were written so far: each once, so there are no more than all.
use Rattle.std.proofs.Common.{◌≡◌, ℕ, zero, suc, ◌+◌, ◌∙◌, ◌<◌, ◌≤◌, ◌^◌, inl, inr, Bool, true, false, ◌==◌, if◌then◌else◌, List, [], ◌∷◌, ◌++◌, refl, ap, sym, subst, length, length-append, Option, Some, None, arith}
use Rattle.std.specs.List.{Contains}
use Rattle.std.proofs.lemmas.Bool.{cases_lt}
use Rattle.std.proofs.lemmas.List.Elements.{Contains-append_left, Contains-append_right, Contains-append_cases}
use Rattle.mrs_text.specs.Written.{place_of, option_suc, seen_after}
use Rattle.mrs_reading.proofs.Predicated.{nothing_in}
use Rattle.mrs_reading.proofs.Moves.{first_or_other, is_first, is_other}
use Rattle.mrs_text.proofs.Steps.{number_of}
use Rattle.mrs_text.proofs.Eating.{same_number}

-- no number stands twice
abbrev pub Apart : List ℕ → Type 0
Apart [] = Unit {0}
Apart (x ∷ xs) = (Contains xs x → ⊥) × Apart xs

record Cut (xs : List ℕ) (x : ℕ) : Type 0 where
  front : List ℕ
  back : List ℕ
  is : xs ≡ front ++ x ∷ back

cut : (xs : List ℕ) (x : ℕ) → Contains xs x → Cut xs x
cut [] x h = absurd (nothing_in x h)
cut (y ∷ xs) x h = elim (first_or_other y xs x h) [
  | inl e ↦ record { front = []; back = xs; is = ap (λ z. z ∷ xs) e }
  | inr k ↦ (let w = cut xs x k in record { front = y ∷ w.front; back = w.back; is = ap (λ z. y ∷ z) w.is })
]

not_more : (xs ys : List ℕ) → Apart xs → ((k : ℕ) → Contains xs k → Contains ys k) → length xs ≤ length ys
not_more [] ys a h = omega arith
not_more (x ∷ xs) ys a h =
    let w = cut ys x (h x (is_first x xs)) in
    let f : (k : ℕ) → Contains xs k → Contains (w.front ++ w.back) k = λ k c. elim (Contains-append_cases w.front (x ∷ w.back) k (subst (λ (z : List ℕ). Contains z k) w.is (h k (is_other x xs k c)))) [
      | inl b ↦ Contains-append_left w.front w.back k b
      | inr b ↦ (elim (first_or_other x w.back k b) [
        | inl e ↦ absurd (a.0 (subst (Contains xs) (sym e) c))
        | inr d ↦ Contains-append_right w.front w.back k d
      ])
    ] in
    let r = not_more xs (w.front ++ w.back) a.1 f in
    let p = length-append w.front w.back in
    let q : length ys ≡ length w.front + length (x ∷ w.back) = ap length w.is ∙ length-append w.front (x ∷ w.back) in
    omega (arith, r, p, q)

-- the numbers below one
abbrev all_below : ℕ → List ℕ
all_below zero = []
all_below (suc n) = n ∷ all_below n

below_there : (n v : ℕ) → v < n → Contains (all_below n) v
below_there zero v l = absurd (omega (arith, l))
below_there (suc n) v l = elim (cases_lt v n) [
  | inl m ↦ is_other n (all_below n) v (below_there n v m)
  | inr m ↦ (let e : n ≡ v = omega (arith, l, m) in subst (Contains (n ∷ all_below n)) e (is_first n (all_below n)))
]

below_length : (n : ℕ) → length (all_below n) ≡ n
below_length zero = refl
below_length (suc n) = ap suc (below_length n)

pub record Fit (n : ℕ) (seen : List ℕ) : Type 0 where
  pub apart : Apart seen
  pub within : (v : ℕ) → Contains seen v → v < n

pub fit_few : (n : ℕ) (seen : List ℕ) → Fit n seen → length seen ≤ n
fit_few n seen f = let l = not_more seen (all_below n) f.apart (λ k c. below_there n k (f.within k c)) in let e = below_length n in omega (arith, l, e)

pub fit_none : (n : ℕ) → Fit n []
fit_none n = record { apart = tt; within = λ v c. absurd (nothing_in v c) }

apart_more : (seen : List ℕ) (v : ℕ) → Apart seen → (Contains seen v → ⊥) → Apart (seen ++ v ∷ [])
apart_more [] v a n = (λ c. nothing_in v c, tt)
apart_more (x ∷ seen) v a n = (
  λ c. (elim (Contains-append_cases seen (v ∷ []) x c) [
    | inl d ↦ a.0 d
    | inr d ↦ (elim (first_or_other v [] x d) [ inl e ↦ n (subst (λ (z : ℕ). Contains (z ∷ seen) v) e (is_first v seen)) | inr e ↦ nothing_in x e ])
  ]),
  apart_more seen v a.1 (λ c. n (is_other x seen v c)),
)

pub not_placed : (v : ℕ) (ws : List ℕ) → place_of v ws ≡ None → Contains ws v → ⊥
not_placed v [] e c = nothing_in v c
not_placed v (w ∷ ws) e c = by (v == w) refl (place_of v ws) refl (not_placed v ws)
  where
    by : (b : Bool) → (v == w) ≡ b → (o : Option ℕ) → place_of v ws ≡ o → (place_of v ws ≡ None → Contains ws v → ⊥) → ⊥
    by true f o g k = absurd (let h : place_of v (w ∷ ws) ≡ Some 0 = ap (λ (b : Bool). if b then Some 0 else option_suc (place_of v ws)) f in cc)
    by false f (Some i) g k = absurd (let h : place_of v (w ∷ ws) ≡ option_suc (Some i) = ap (λ (b : Bool). if b then Some 0 else option_suc (place_of v ws)) f ∙ ap option_suc g in cc)
    by false f None g k = elim (first_or_other w ws v c) [
      | inl d ↦ absurd (let h : (v == w) ≡ true = ap (λ z. v == z) d ∙ same_number v in cc)
      | inr d ↦ k g d
    ]

pub placed_below : (v : ℕ) (ws : List ℕ) (i : ℕ) → place_of v ws ≡ Some i → i < length ws
placed_below v [] i e = absurd (cc)
placed_below v (w ∷ ws) i e = by (v == w) refl (place_of v ws) refl (placed_below v ws)
  where
    by : (b : Bool) → (v == w) ≡ b → (o : Option ℕ) → place_of v ws ≡ o → ((j : ℕ) → place_of v ws ≡ Some j → j < length ws) → i < length (w ∷ ws)
    by true f o g k = let h : place_of v (w ∷ ws) ≡ Some 0 = ap (λ (b : Bool). if b then Some 0 else option_suc (place_of v ws)) f in let q : 0 ≡ i = cc in omega (arith, q)
    by false f None g k = absurd (let h : place_of v (w ∷ ws) ≡ None = ap (λ (b : Bool). if b then Some 0 else option_suc (place_of v ws)) f ∙ ap option_suc g in cc)
    by false f (Some j) g k =
        let h : place_of v (w ∷ ws) ≡ Some (j + 1) = ap (λ (b : Bool). if b then Some 0 else option_suc (place_of v ws)) f ∙ ap option_suc g in
        let q : j + 1 ≡ i = cc in let l = k j g in omega (arith, q, l)

pub fit_next : (n : ℕ) (seen : List ℕ) (v : ℕ) → Fit n seen → v < n → Fit n (seen_after (place_of v seen) seen v)
fit_next n seen v f l = by (place_of v seen) refl
  where
    by : (o : Option ℕ) → place_of v seen ≡ o → Fit n (seen_after o seen v)
    by (Some i) e = f
    by None e = record {
      apart = apart_more seen v f.apart (not_placed v seen e);
      within = λ w c. elim (Contains-append_cases seen (v ∷ []) w c) [
        | inl d ↦ f.within w d
        | inr d ↦ (elim (first_or_other v [] w d) [ inl i ↦ subst (λ (z : ℕ). z < n) i l | inr i ↦ absurd (nothing_in w i) ])
      ];
    }

pub fit_number : (n : ℕ) (seen : List ℕ) (v : ℕ) → n < 2 ^ 64 → Fit n seen → number_of (place_of v seen) (length seen) < 2 ^ 64
fit_number n seen v few f = by (place_of v seen) refl
  where
    by : (o : Option ℕ) → place_of v seen ≡ o → number_of o (length seen) < 2 ^ 64
    by (Some i) e = let a = placed_below v seen i e in let b = fit_few n seen f in omega (arith, a, b, few)
    by None e = let b = fit_few n seen f in omega (arith, b, few)
