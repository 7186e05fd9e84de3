-- A sorted list of trees that differ rises.
use Rattle.std.specs.Prelude.{◌≡◌, ◌⊎◌, ℕ, ◌+◌, ◌≤◌, ◌<◌, false, List, [], ◌∷◌, length, refl}
use Rattle.std.proofs.Common.{ap, subst, sym, ◌∙◌, zero, suc, arith, get_or, add-one, inl, inr}
use Rattle.std.specs.List.{Contains, sum_by}
use Rattle.std.specs.List.Sorted.{IsSortedBy, IsPermutation}
use Rattle.std.specs.Ordering.{is_lt, ordering_reverse}
use Rattle.std.specs.declared.cmp.Ordering.{Ordering}
use Rattle.std.specs.declared.cmp.Ordering.TheVariants.{Less, Equal, Greater}
use Rattle.std.proofs.lemmas.List.Sorted.{sum_by-IsPermutation, Contains-permutation, IsPermutation-sym}
use Rattle.std.proofs.lemmas.List.Sums.{sum_by-cons}
use Rattle.derivation.specs.Trees.{Derivation}
use Rattle.derivation.specs.Order.{compare_trees}
use Rattle.derivation.proofs.Total.{trees_total, trees_tie}
use Rattle.tree_model.specs.Readings.{Rises, rises_none, rises_one, rises_more}
use Rattle.tree_model.specs.Lists.{Has, has_here, has_there, AllDiffer, differ_none, differ_more}

-- not after, and not equal: before
before_by : (t u : Derivation) (o : Ordering) → compare_trees u t ≡ o → is_lt o ≡ false → (t ≡ u → ⊥) → compare_trees t u ≡ Less
before_by t u Less e f apart = absurd (cc)
before_by t u Equal e f apart = absurd (apart (sym ((trees_tie u t).0 e)))
before_by t u Greater e f apart = trees_total.antisymm t u ∙ ap ordering_reverse e

later : (t : Derivation) (ts : List Derivation) → IsSortedBy (λ x y. is_lt (compare_trees x y)) (t ∷ ts) → IsSortedBy (λ x y. is_lt (compare_trees x y)) ts
later t ts sorted n e low high =
    let h = sorted (suc n) e (omega arith) (omega (arith, high)) in
    let p : get_or (t ∷ ts) (suc n + 1) e ≡ get_or ts (n + 1) e = rw (add-one (suc n), add-one n) refl in
    subst (λ z. is_lt (compare_trees z (get_or ts n e)) ≡ false) p h

pub rises : (ts : List Derivation) → IsSortedBy (λ x y. is_lt (compare_trees x y)) ts → AllDiffer ts → Rises ts
rises [] sorted d = rises_none
rises (t ∷ []) sorted d = rises_one t
rises (t ∷ u ∷ ts) sorted (differ_more not d) =
    rises_more t u ts
    (before_by t u (compare_trees u t) refl (sorted 0 t (omega arith) (omega arith)) (λ e. not (subst (λ z. Has z (u ∷ ts)) (sym e) has_here)))
    (rises (u ∷ ts) (later t (u ∷ ts) sorted) d)

-- how often a tree stands in a list
abbrev one_if : Ordering → ℕ
one_if Less = 0
one_if Equal = 1
one_if Greater = 0

abbrev counts : Derivation → Derivation → ℕ
counts t u = one_if (compare_trees t u)

abbrev times : Derivation → List Derivation → ℕ
times t ts = sum_by (counts t) ts

times_more : (t u : Derivation) (ts : List Derivation) → times t (u ∷ ts) ≡ counts t u + times t ts
times_more t u ts = sum_by-cons (counts t) u ts

itself : (t : Derivation) → counts t t ≡ 1
itself t = ap one_if ((trees_tie t t).1 refl)

other_by : (t u : Derivation) (o : Ordering) → compare_trees t u ≡ o → (t ≡ u → ⊥) → one_if o ≡ 0
other_by t u Less e apart = refl
other_by t u Equal e apart = absurd (apart ((trees_tie t u).0 e))
other_by t u Greater e apart = refl

most_by : (o : Ordering) → one_if o ≤ 1
most_by Less = omega arith
most_by Equal = omega arith
most_by Greater = omega arith

same_by : (t u : Derivation) (o : Ordering) → compare_trees t u ≡ o → (one_if o ≡ 0) ⊎ (t ≡ u)
same_by t u Less e = inl refl
same_by t u Equal e = inr ((trees_tie t u).0 e)
same_by t u Greater e = inl refl

absent : (t : Derivation) (ts : List Derivation) → (Has t ts → ⊥) → times t ts ≡ 0
absent t [] never = refl
absent t (u ∷ ts) never =
    let a : counts t u ≡ 0 = other_by t u (compare_trees t u) refl (λ e. never (subst (λ z. Has t (z ∷ ts)) e has_here)) in
    let b = absent t ts (λ h. never (has_there h)) in
    omega (arith, a, b, times_more t u ts)

present : {t : Derivation} {ts : List Derivation} → Has t ts → 1 ≤ times t ts
present {t = t} (has_here {xs = xs}) = let a = itself t in omega (arith, a, times_more t t xs)
present {t = t} (has_there {y = u} {xs = xs} h) = let a = present h in omega (arith, a, times_more t u xs)

few : {ts : List Derivation} → AllDiffer ts → (t : Derivation) → times t ts ≤ 1
few differ_none t = omega arith
few (differ_more {x = u} {xs = ts} never rest) t = few_by (few rest t) (same_by t u (compare_trees t u) refl)
  where
    few_by : times t ts ≤ 1 → (one_if (compare_trees t u) ≡ 0) ⊎ (t ≡ u) → times t (u ∷ ts) ≤ 1
    few_by b (inl a) = omega (arith, a, b, times_more t u ts)
    few_by d (inr e) = let b = most_by (compare_trees t u) in let c = absent t ts (subst (λ z. Has z ts → ⊥) (sym e) never) in omega (arith, b, c, times_more t u ts)

differ_from : (ts : List Derivation) → ((t : Derivation) → times t ts ≤ 1) → AllDiffer ts
differ_from [] once = differ_none
differ_from (u ∷ ts) once =
    differ_more (λ h. let a = itself u in let b = present h in let c = once u in absurd (omega (arith, a, b, c, times_more u u ts)))
    (differ_from ts (λ t. let c = once t in omega (arith, c, times_more t u ts)))

pub differ_permuted : (ts us : List Derivation) → IsPermutation ts us → AllDiffer ts → AllDiffer us
differ_permuted ts us p d = differ_from us (λ t. let e = sum_by-IsPermutation (counts t) ts us p in let c = few d t in omega (arith, e, c))

module _ {A : Type 0} where
  pub has_contains : {x : A} {xs : List A} → Has x xs → Contains xs x
  has_contains has_here = (0, omega arith, refl)
  has_contains (has_there h) = let r = has_contains h in (suc r.0, omega (arith, r.1), r.2)

  pub contains_has : (xs : List A) (x : A) → Contains xs x → Has x xs
  contains_has [] x c = absurd (omega (arith, c.1))
  contains_has (y ∷ xs) x c = by c.0 c.1 c.2 (λ k low is. contains_has xs x (k, low, is))
    where
      by : (k : ℕ) → k < length (y ∷ xs) → get_or (y ∷ xs) k x ≡ x → ((k : ℕ) → k < length xs → get_or xs k x ≡ x → Has x xs) → Has x (y ∷ xs)
      by zero low is go = subst (λ z. Has x (z ∷ xs)) (sym is) has_here
      by (suc k) low is go = has_there (go k (omega (arith, low)) is)

pub has_permuted : {A : Type 0} (ts us : List A) (t : A) → IsPermutation ts us → Has t ts → Has t us
has_permuted ts us t p h = contains_has us t (Contains-permutation ts us t p (has_contains h))

pub permuted_has : {A : Type 0} (ts us : List A) (t : A) → IsPermutation ts us → Has t us → Has t ts
permuted_has ts us t p h = has_permuted us ts t (IsPermutation-sym ts us p) h
