-- Places in lists of numbers, and how many different numbers there can be.
use Rattle.std.proofs.Common.{ℕ, zero, suc, ◌≡◌, ◌+◌, ◌<◌, ◌≤◌, ◌⊎◌, inl, inr, Bool, true, false, List, [], ◌∷◌, ◌++◌, length, length-append, slice_index, refl, sym, ◌∙◌, ap, subst, arith, ◌==◌}
use Rattle.std.specs.Prelude.{Contains, if◌then◌else◌}
use Rattle.std.proofs.lemmas.Bool.{eq-eqb, eqb-true}
use Rattle.std.proofs.lemmas.List.Elements.{Contains-get_or, Contains-append_left, Contains-append_right, Contains-append_cases}
use Rattle.mrs_model.specs.Renaming.{IsOneToOne}
use Rattle.mrs_reading.proofs.Predicated.{nothing_in}
use Rattle.mrs_reading.proofs.Moves.{first_or_other, is_first, is_other}
use Rattle.transfer_model.specs.Applying.{numbers}

-- the first place of a number
abbrev pub place_in : List ℕ → ℕ → ℕ
place_in [] v = 0
place_in (x ∷ xs) v = if x == v then 0 else suc (place_in xs v)

pub record IsPlace (xs : List ℕ) (v i : ℕ) : Type 0 where
  pub within : i < length xs
  pub there : slice_index xs i ≡ v

pub placed : (xs : List ℕ) (v : ℕ) → Contains xs v → IsPlace xs v (place_in xs v)
placed [] v h = absurd (nothing_in v h)
placed (x ∷ xs) v h = by (x == v) refl (placed xs v)
  where
    by : (b : Bool) → (x == v) ≡ b → (Contains xs v → IsPlace xs v (place_in xs v)) → IsPlace (x ∷ xs) v (if b then 0 else suc (place_in xs v))
    by true e f = record { within = omega arith; there = eqb-true x v e }
    by false e f = elim (first_or_other x xs v h) [
      | inl d ↦ absurd (let t : (x == v) ≡ true = eq-eqb x v d in cc)
      | inr d ↦ (let p = f d in record { within = (let l = p.within in omega (arith, l)); there = p.there })
    ]

-- a list without a number that is in it
record Cut (xs : List ℕ) (x : ℕ) : Type 0 where
  front : List ℕ
  back : List ℕ
  is : xs ≡ front ++ x ∷ back

cut : (xs : List ℕ) (x : ℕ) → Contains xs x → Cut xs x
cut [] x h = absurd (nothing_in x h)
cut (y ∷ xs) x h = elim (first_or_other y xs x h) [
  | inl e ↦ record { front = []; back = xs; is = ap (λ z. z ∷ xs) e }
  | inr k ↦ (let w = cut xs x k in record { front = y ∷ w.front; back = w.back; is = ap (λ z. y ∷ z) w.is })
]

one_of_rest : (x : ℕ) (xs : List ℕ) → IsOneToOne (x ∷ xs) → IsOneToOne xs
one_of_rest x xs o v w l k e = let q = o (suc v) (suc w) (omega (arith, l)) (omega (arith, k)) e in omega (arith, q)

not_in_rest : (x : ℕ) (xs : List ℕ) → IsOneToOne (x ∷ xs) → Contains xs x → ⊥
not_in_rest x xs o h =
    let p = placed xs x h in
    let l = p.within in
    let q = o 0 (suc (place_in xs x)) (omega arith) (omega (arith, l)) (sym p.there) in
    omega (arith, q)

not_more : (xs ys : List ℕ) → IsOneToOne xs → ((k : ℕ) → Contains xs k → Contains ys k) → length xs ≤ length ys
not_more [] ys o h = omega arith
not_more (x ∷ xs) ys o h =
    let w = cut ys x (h x (is_first x xs)) in
    let f : (k : ℕ) → Contains xs k → Contains (w.front ++ w.back) k = λ k c. elim (Contains-append_cases w.front (x ∷ w.back) k (subst (λ (z : List ℕ). Contains z k) w.is (h k (is_other x xs k c)))) [
      | inl b ↦ Contains-append_left w.front w.back k b
      | inr b ↦ (elim (first_or_other x w.back k b) [
        | inl e ↦ absurd (not_in_rest x xs o (subst (Contains xs) (sym e) c))
        | inr d ↦ Contains-append_right w.front w.back k d
      ])
    ] in
    let r = not_more xs (w.front ++ w.back) (one_of_rest x xs o) f in
    let p = length-append w.front w.back in
    let q : length ys ≡ length w.front + length (x ∷ w.back) = ap length w.is ∙ length-append w.front (x ∷ w.back) in
    omega (arith, r, p, q)

-- the numbers from one on
pub numbers_length : (n count : ℕ) → length (numbers n count) ≡ count
numbers_length n zero = refl
numbers_length n (suc count) = ap suc (numbers_length (n + 1) count)

pub number_at : (n count j : ℕ) → j < count → slice_index (numbers n count) j ≡ n + j
number_at n zero j l = absurd (omega (arith, l))
number_at n (suc count) zero l = omega arith
number_at n (suc count) (suc j) l = number_at (n + 1) count j (omega (arith, l)) ∙ omega arith

number_there : (count v : ℕ) → v < count → Contains (numbers 0 count) v
number_there count v l =
    let e = numbers_length 0 count in
    let q : slice_index (numbers 0 count) v ≡ v = number_at 0 count v l ∙ omega arith in
    subst (Contains (numbers 0 count)) q (Contains-get_or (numbers 0 count) v 0 (omega (arith, e, l)))

-- so many different numbers below n are at most n
pub few : (n : ℕ) (xs : List ℕ) → IsOneToOne xs → ((v : ℕ) → v < length xs → slice_index xs v < n) → length xs ≤ n
few n xs o w =
    let e = numbers_length 0 n in
    let h : (k : ℕ) → Contains xs k → Contains (numbers 0 n) k = λ k c.
    (let p = placed xs k c in
    number_there n k (subst (λ (z : ℕ). z < n) p.there (w (place_in xs k) p.within))) in
    let m = not_more xs (numbers 0 n) o h in
    omega (arith, m, e)

there_or_not : (xs : List ℕ) (w : ℕ) → Contains xs w ⊎ (Contains xs w → ⊥)
there_or_not [] w = inr (nothing_in w)
there_or_not (x ∷ xs) w = by (x == w) refl (there_or_not xs w)
  where
    by : (b : Bool) → (x == w) ≡ b → Contains xs w ⊎ (Contains xs w → ⊥) → Contains (x ∷ xs) w ⊎ (Contains (x ∷ xs) w → ⊥)
    by true e r = inl (subst (Contains (x ∷ xs)) (eqb-true x w e) (is_first x xs))
    by false e (inl h) = inl (is_other x xs w h)
    by false e (inr n) = inr (λ h. elim (first_or_other x xs w h) [
      | inl d ↦ absurd (let t : (x == w) ≡ true = eq-eqb x w d in cc)
      | inr d ↦ n d
    ])

one_more : (x : ℕ) (xs : List ℕ) → IsOneToOne xs → (Contains xs x → ⊥) → IsOneToOne (x ∷ xs)
one_more x xs o n zero zero l k e = refl
one_more x xs o n zero (suc w) l k e = absurd (n (subst (Contains xs) (sym e) (Contains-get_or xs w 0 (omega (arith, k)))))
one_more x xs o n (suc v) zero l k e = absurd (n (subst (Contains xs) e (Contains-get_or xs v 0 (omega (arith, l)))))
one_more x xs o n (suc v) (suc w) l k e = ap suc (o v w (omega (arith, l)) (omega (arith, k)) e)

within_more : (n x : ℕ) (xs : List ℕ) → x < n → ((v : ℕ) → v < length xs → slice_index xs v < n) → (v : ℕ) → v < length (x ∷ xs) → slice_index (x ∷ xs) v < n
within_more n x xs l h zero k = l
within_more n x xs l h (suc v) k = h v (omega (arith, k))

-- where there are n of them, each number below n is there
pub all_there : (n : ℕ) (xs : List ℕ) → IsOneToOne xs → ((v : ℕ) → v < length xs → slice_index xs v < n) → length xs ≡ n → (w : ℕ) → w < n → Contains xs w
all_there n xs o h e w l = elim (there_or_not xs w) [
  | inl c ↦ c
  | inr c ↦ absurd (let m = few n (w ∷ xs) (one_more w xs o c) (within_more n w xs l h) in omega (arith, m, e))
]
