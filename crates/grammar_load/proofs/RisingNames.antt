-- Rising lists of names that have the same members are one.
use Rattle.std.proofs.Common.{ℕ, suc, ◌≡◌, ◌<◌, false, List, [], ◌∷◌, length, slice_index_or, refl, sym, ◌∙◌, ap, subst, arith, Ordering}
use Rattle.std.specs.Cmp.Lexicographic.{slice_cmp}
use Rattle.std.specs.List.Sorted.{IsSorted}
use Rattle.std.specs.Ordering.{nat_cmp, is_lt, is_eq, ordering_reverse}
use Rattle.std.specs.declared.cmp.Ordering.TheVariants.{Less, Equal, Greater}
use Rattle.std.proofs.lemmas.Cmp.{nat_list_cmp_total}
use Rattle.std.proofs.lemmas.List.Sorted.{sorted_far, ranks_by}
use Rattle.std.proofs.lemmas.Map.Text.{is_eq-slice_cmp}
use Rattle.fs_model.specs.Claims.{Has, here, there}
use Rattle.type_hierarchy.specs.Decls.{Name}
use Rattle.type_hierarchy.specs.Table.{IsDistinct}
use Rattle.type_facts.proofs.ListLemmas.{true_not_false, Has-place}
use Rattle.std.proofs.lemmas.Slice.Eq.{bytes_eq-Decides}

compare : Name → Name → Ordering
compare = slice_cmp nat_cmp

-- each is below those after it
Rises : List Name → Type 0
Rises xs = (i j : ℕ) → i < j → j < length xs → compare (slice_index_or xs i []) (slice_index_or xs j []) ≡ Less

not_less : (z : Name) → compare z z ≡ Less → ⊥
unfolding compare
not_less z e = differ (sym e ∙ nat_list_cmp_total.antisymm z z ∙ ap ordering_reverse e)
  where
    differ : Less ≡ Greater → ⊥
    differ k = cc

not_both_less : (x y : Name) → compare x y ≡ Less → compare y x ≡ Less → ⊥
unfolding compare
not_both_less x y e f = differ (sym f ∙ nat_list_cmp_total.antisymm y x ∙ ap ordering_reverse e)
  where
    differ : Less ≡ Greater → ⊥
    differ k = cc

apart_sorted : (x y : Name) → is_lt (compare y x) ≡ false → (x ≡ y → ⊥) → compare x y ≡ Less
unfolding compare
apart_sorted x y e apart = go (slice_cmp nat_cmp y x) refl
  where
    go : (o : Ordering) → slice_cmp nat_cmp y x ≡ o → slice_cmp nat_cmp x y ≡ Less
    go Less k = true_not_false (is_lt (slice_cmp nat_cmp y x)) (ap is_lt k) e
    go Equal k = absurd (apart (sym ((bytes_eq-Decides y x).0 (sym (is_eq-slice_cmp y x) ∙ ap is_eq k))))
    go Greater k = nat_list_cmp_total.antisymm x y ∙ ap ordering_reverse k

rises : (xs : List Name) → IsSorted (slice_cmp nat_cmp) xs → IsDistinct xs → Rises xs
unfolding Rises compare
rises xs up apart i j a b = apart_sorted (slice_index_or xs i []) (slice_index_or xs j []) (sorted_far _ (ranks_by nat_list_cmp_total (λ x. x)) xs up i j [] (omega arith) b) (apart i j a b)

rises_tail : (x : Name) (xs : List Name) → Rises (x ∷ xs) → Rises xs
unfolding Rises
rises_tail x xs r i j a b = r (suc i) (suc j) (omega arith) (omega arith)

-- the first is below every other
first_less : (x z : Name) (xs : List Name) → Rises (x ∷ xs) → Has z xs → compare x z ≡ Less
unfolding Rises
first_less x z xs r h = let p = Has-place z [] xs h in subst (λ w. compare x w ≡ Less) p.2 (r 0 (suc p.0) (omega arith) (omega (arith, p.1)))

one_head : (x y : Name) (xs ys : List Name) → Rises (x ∷ xs) → Rises (y ∷ ys) → Has x (y ∷ ys) → Has y (x ∷ xs) → x ≡ y
one_head x _ xs ys r s here n = refl
one_head x _ xs ys r s (there h) here = refl
one_head x y xs ys r s (there h) (there k) = absurd (not_both_less x y (first_less x y xs r k) (first_less y x ys s h))

-- what is in a list without its head
in_tail : (x y z : Name) (xs ys : List Name) → Rises (x ∷ xs) → x ≡ y → Has z (y ∷ ys) → Has z xs → Has z ys
in_tail x _ z xs ys r same here m = absurd (not_less z (subst (λ w. compare w z ≡ Less) same (first_less x z xs r m)))
in_tail x y z xs ys r same (there h) m = h

one_list : (xs ys : List Name) → Rises xs → Rises ys → ((z : Name) → Has z xs → Has z ys) → ((z : Name) → Has z ys → Has z xs) → xs ≡ ys
one_list [] [] r s f g = refl
one_list [] (y ∷ ys) r s f g = elim (g y here) [ ]
one_list (x ∷ xs) [] r s f g = elim (f x here) [ ]
one_list (x ∷ xs) (y ∷ ys) r s f g =
    let same : x ≡ y = one_head x y xs ys r s (f x here) (g y here) in
    let rest : xs ≡ ys = one_list xs ys (rises_tail x xs r) (rises_tail y ys s) (λ z h. in_tail x y z xs ys r same (f z (there h)) h) (λ z h. in_tail y x z ys xs s (sym same) (g z (there h)) h) in
    ap (λ w. w ∷ xs) same ∙ ap (λ l. y ∷ l) rest

pub one-rising : (xs ys : List Name) → IsSorted (slice_cmp nat_cmp) xs → IsDistinct xs → IsSorted (slice_cmp nat_cmp) ys → IsDistinct ys → ((z : Name) → Has z xs → Has z ys) → ((z : Name) → Has z ys → Has z xs) → xs ≡ ys
one-rising xs ys a b c d f g = one_list xs ys (rises xs a b) (rises ys c d) f g
