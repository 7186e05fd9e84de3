-- Two lists in order that hold the same are one list; and what stands in a list that another is mapped to.
use Rattle.std.specs.Prelude.{ℕ, ◌≡◌, ◌<◌, ◌⊎◌, List, [], ◌∷◌, map}
use Rattle.std.specs.declared.cmp.Ordering.{Ordering}
use Rattle.std.specs.declared.cmp.Ordering.TheVariants.{Less, Greater}
use Rattle.std.specs.Cmp.{IsTotalOrder}
use Rattle.std.specs.Ordering.{ordering_reverse}
use Rattle.std.proofs.Common.{refl, sym, ◌∙◌, ap, subst, zero, suc, arith, inl, inr}
use Rattle.chart_model.specs.At.{At, here, there}

-- of two places the first holds what stands before what the second holds
abbrev pub AreInOrder : {A : Type 0} → (A → A → Type 0) → List A → Type 0
AreInOrder {A} R xs = (i j : ℕ) (x y : A) → i < j → At xs i x → At xs j y → R x y

-- what the first list holds the second does
abbrev pub AllIn : {A : Type 0} → List A → List A → Type 0
AllIn {A} xs ys = (i : ℕ) (x : A) → At xs i x → (j : ℕ) × At ys j x

first_or : {A : Type 0} {x y : A} {ys : List A} {j : ℕ} → At (y ∷ ys) j x → (x ≡ y) ⊎ ((i : ℕ) × At ys i x)
first_or here = inl refl
first_or (there {i = i} a) = inr (i, a)

module _ {A : Type 0} (R : A → A → Type 0) where
  rest : (x : A) (xs : List A) → AreInOrder R (x ∷ xs) → AreInOrder R xs
  rest x xs o i j a b l p q = o (suc i) (suc j) a b (omega (arith, l)) (there p) (there q)

  after : (x : A) (xs : List A) → AreInOrder R (x ∷ xs) → (y : A) (i : ℕ) → At xs i y → R x y
  after x xs o y i a = o zero (suc i) x y (omega arith) here (there a)

  module _ (never : (x y : A) → R x y → R y x → ⊥) where
    -- what comes after the first in the one list does in the other
    later : (x y : A) (xs ys : List A) → x ≡ y → AreInOrder R (x ∷ xs) → AllIn (x ∷ xs) (y ∷ ys) → AllIn xs ys
    later x y xs ys e o all i z a = by_first (first_or (all (suc i) z (there a)).1)
      where
        by_first : (z ≡ y) ⊎ ((j : ℕ) × At ys j z) → (j : ℕ) × At ys j z
        by_first (inl f) = absurd (let r : R x x = subst (λ w. R x w) (f ∙ sym e) (after x xs o z i a) in never x x r r)
        by_first (inr h) = h

    pub one_list : (xs ys : List A) → AreInOrder R xs → AreInOrder R ys → AllIn xs ys → AllIn ys xs → xs ≡ ys
    one_list [] [] o p to back = refl
    one_list [] (y ∷ ys) o p to back = elim (back zero y here).1 [ ]
    one_list (x ∷ xs) [] o p to back = elim (to zero x here).1 [ ]
    one_list (x ∷ xs) (y ∷ ys) o p to back = by_first (same (first_or (to zero x here).1) (first_or (back zero y here).1)) (one_list xs ys (rest x xs o) (rest y ys p))
      where
        same : (x ≡ y) ⊎ ((i : ℕ) × At ys i x) → (y ≡ x) ⊎ ((i : ℕ) × At xs i y) → x ≡ y
        same (inl e) b = e
        same (inr h) (inl e) = sym e
        same (inr h) (inr k) = absurd (never x y (after x xs o y k.0 k.1) (after y ys p x h.0 h.1))

        by_first : x ≡ y → (AllIn xs ys → AllIn ys xs → xs ≡ ys) → x ∷ xs ≡ y ∷ ys
        by_first e go = let f = go (later x y xs ys e o to) (later y x ys xs (sym e) p back) in λ i. e i ∷ f i

-- nothing comes both before and after another
pub never_both : {A : Type 0} {R : A → A → Ordering} → IsTotalOrder R → (x y : A) → R x y ≡ Less → R y x ≡ Less → ⊥
never_both {R = R} total x y h k = let e = total.antisymm x y in let f : R x y ≡ Greater = e ∙ ap ordering_reverse k in cc

pub map_from : {A B : Type 0} (f : A → B) (xs : List A) {i : ℕ} {y : B} → At (map f xs) i y → (x : A) × At xs i x × (f x ≡ y)
map_from f [] a = elim a [ ]
map_from f (x ∷ xs) here = (x, here, refl)
map_from f (x ∷ xs) (there a) = let z = map_from f xs a in (z.0, there z.1, z.2)
