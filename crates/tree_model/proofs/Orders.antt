-- Trees in order: two lists of the same trees are one list, and one of some of them is no longer.
use Rattle.std.specs.Prelude.{ℕ, ◌≡◌, ◌≤◌, ◌⊎◌, List, [], ◌∷◌, length}
use Rattle.std.specs.declared.cmp.Ordering.TheVariants.{Less, Greater}
use Rattle.std.specs.Ordering.{ordering_reverse}
use Rattle.std.proofs.Common.{refl, sym, ◌∙◌, ap, subst, arith, inl, inr}
use Rattle.fs_model.specs.Claims.{Has, here, there}
use Rattle.derivation.specs.Trees.{Derivation}
use Rattle.derivation.specs.Order.{compare_trees}
use Rattle.derivation.proofs.Total.{trees_total}
use Rattle.tree_model.specs.Readings.{Rises, rises_none, rises_one, rises_more}
use Rattle.tree_model.specs.Items.{AreExactly, AreMoreThan}

-- each tree after the first comes after it
after : {t u : Derivation} {ts : List Derivation} → Rises (t ∷ ts) → Has u ts → compare_trees t u ≡ Less
after (rises_one _) h = elim h [ ]
after (rises_more _ _ _ l o) here = l
after {t} {u} (rises_more _ v _ l o) (there h) = trees_total.trans t v u l (after o h)

rest : {t : Derivation} {ts : List Derivation} → Rises (t ∷ ts) → Rises ts
rest (rises_one _) = rises_none
rest (rises_more _ _ _ l o) = o

not_both : (t u : Derivation) → compare_trees t u ≡ Less → compare_trees u t ≡ Less → ⊥
not_both t u h k = let e = trees_total.antisymm t u in let f : compare_trees t u ≡ Greater = e ∙ ap ordering_reverse k in cc

first_or : {t u : Derivation} {us : List Derivation} → Has t (u ∷ us) → (t ≡ u) ⊎ Has t us
first_or here = inl refl
first_or (there h) = inr h

-- one of a list without its first tree, where it comes after that
later : (t u : Derivation) (us : List Derivation) → Has t (u ∷ us) → compare_trees u t ≡ Less → Has t us
later t u us h l = elim (first_or h) [ inl e ↦ absurd (let m = subst (λ z. compare_trees u z ≡ Less) e l in not_both u u m m) | inr k ↦ k ]

pub no_longer : (xs ys : List Derivation) → Rises xs → Rises ys → ((t : Derivation) → Has t xs → Has t ys) → length xs ≤ length ys
no_longer [] ys o p all = omega arith
no_longer (x ∷ xs) [] o p all = elim (all x here) [ ]
no_longer (x ∷ xs) (y ∷ ys) o p all = by_first (first_or (all x here)) (no_longer xs ys (rest o) (rest p)) (no_longer (x ∷ xs) ys o (rest p))
  where
    before : compare_trees y x ≡ Less → (t : Derivation) → (t ≡ x) ⊎ Has t xs → compare_trees y t ≡ Less
    before l t (inl e) = subst (λ z. compare_trees y z ≡ Less) (sym e) l
    before l t (inr h) = trees_total.trans y x t l (after o h)

    by_first : (x ≡ y) ⊎ Has x ys → (((t : Derivation) → Has t xs → Has t ys) → length xs ≤ length ys) → (((t : Derivation) → Has t (x ∷ xs) → Has t ys) → length (x ∷ xs) ≤ length ys) → length (x ∷ xs) ≤ length (y ∷ ys)
    by_first (inl e) k l = let z = k (λ t h. later t y ys (all t (there h)) (subst (λ w. compare_trees w t ≡ Less) e (after o h))) in omega (arith, z)
    by_first (inr h) k l =
        let first = after p h in
        let z = l (λ t m. later t y ys (all t m) (before first t (first_or m))) in
        omega (arith, z)

pub one_list : (xs ys : List Derivation) → Rises xs → Rises ys → ((t : Derivation) → Has t xs → Has t ys) → ((t : Derivation) → Has t ys → Has t xs) → xs ≡ ys
one_list [] [] o p to back = refl
one_list [] (y ∷ ys) o p to back = elim (back y here) [ ]
one_list (x ∷ xs) [] o p to back = elim (to x here) [ ]
one_list (x ∷ xs) (y ∷ ys) o p to back = by_first (first_or (to x here)) (first_or (back y here)) (one_list xs ys (rest o) (rest p))
  where
    same : x ≡ y → (((t : Derivation) → Has t xs → Has t ys) → ((t : Derivation) → Has t ys → Has t xs) → xs ≡ ys) → x ∷ xs ≡ y ∷ ys
    same e k =
        let f = k (λ t h. later t y ys (to t (there h)) (subst (λ z. compare_trees z t ≡ Less) e (after o h))) (λ t h. later t x xs (back t (there h)) (subst (λ z. compare_trees z t ≡ Less) (sym e) (after p h))) in
        λ i. e i ∷ f i

    by_first : (x ≡ y) ⊎ Has x ys → (y ≡ x) ⊎ Has y xs → (((t : Derivation) → Has t xs → Has t ys) → ((t : Derivation) → Has t ys → Has t xs) → xs ≡ ys) → x ∷ xs ≡ y ∷ ys
    by_first (inl e) b k = same e k
    by_first (inr h) (inl e) k = same (sym e) k
    by_first (inr h) (inr m) k = absurd (not_both y x (after p h) (after o m))

pub one_exactly : {set : Derivation → Type 0} (xs ys : List Derivation) → AreExactly set xs → AreExactly set ys → xs ≡ ys
one_exactly xs ys a b = one_list xs ys a.ordered b.ordered (λ t h. b.all t (a.each t h)) (λ t h. a.all t (b.each t h))

pub not_more : {set : Derivation → Type 0} {most : ℕ} (ys : List Derivation) → AreMoreThan set most → AreExactly set ys → length ys ≤ most → ⊥
not_more ys a b l = let z = no_longer a.trees ys a.ordered b.ordered (λ t h. b.all t (a.each t h)) in let m = a.more in omega (arith, z, m, l)
