-- Each list of sets has an order.
use Rattle.std.proofs.Common.{ℕ, zero, suc, ◌≡◌, ◌<◌, ◌≤◌, ◌+◌, ◌⊎◌, inl, inr, Bool, true, false, List, [], ◌∷◌, ◌++◌, length, slice_index_or, refl, sym, ◌∙◌, ap, arith}
use Rattle.std.specs.Cmp.Lexicographic.{slice_cmp, nat_list_cmp_total}
use Rattle.std.specs.List.Sorted.{IsPermutation, IsSorted}
use Rattle.std.specs.Ordering.{nat_cmp, is_lt, ordering_reverse}
use Rattle.std.specs.declared.cmp.Ordering.{Ordering}
use Rattle.std.specs.declared.cmp.Ordering.TheVariants.{Less, Equal, Greater}
use Rattle.std.proofs.lemmas.List.Sorted.{IsPermutation-refl, IsPermutation-trans, IsPermutation-append, IsPermutation-append_comm}
use Rattle.grammar_types.proofs.SettleLists.{bools, true_not_false}

abbrev lt : List ℕ → List ℕ → Bool
lt a b = is_lt (slice_cmp nat_cmp a b)

abbrev Sorted : List (List ℕ) → Type 0
Sorted xs = IsSorted (slice_cmp nat_cmp) xs

-- the first isn't less than b
abbrev HeadOver : List ℕ → List (List ℕ) → Type 0
HeadOver b xs = (d : List ℕ) → 0 < length xs → lt (slice_index_or xs 0 d) b ≡ false

not_both : (r s : Ordering) → r ≡ ordering_reverse s → is_lt s ≡ true → is_lt r ≡ false
not_both r Less e h = ap is_lt e
not_both r Equal e h = ap is_lt e
not_both r Greater e h = absurd (true_not_false false h refl)

asymmetric : (a b : List ℕ) → lt a b ≡ true → lt b a ≡ false
asymmetric a b h = not_both (slice_cmp nat_cmp b a) (slice_cmp nat_cmp a b) (nat_list_cmp_total.antisymm b a) h

next : (k : ℕ) → suc k + 1 ≡ suc (k + 1)
next k = omega arith

sorted_first : (x : List ℕ) (xs : List (List ℕ)) → Sorted xs → HeadOver x xs → Sorted (x ∷ xs)
sorted_first x xs s h zero d low l = h d (omega (arith, l))
sorted_first x xs s h (suc k) d low l = ap (λ i. lt (slice_index_or (x ∷ xs) i d) (slice_index_or xs k d)) (next k) ∙ s k d (omega arith) (omega (arith, l))

sorted_rest : (x : List ℕ) (xs : List (List ℕ)) → Sorted (x ∷ xs) → Sorted xs
sorted_rest x xs s k d low l = sym (ap (λ i. lt (slice_index_or (x ∷ xs) i d) (slice_index_or xs k d)) (next k)) ∙ s (suc k) d (omega arith) (omega (arith, l))

-- with one more in its place
pub record Put (y : List ℕ) (xs : List (List ℕ)) : Type 0 where
  pub all : List (List ℕ)
  pub shuffled : IsPermutation (y ∷ xs) all
  pub sorted : Sorted all
  pub over : (b : List ℕ) → lt y b ≡ false → HeadOver b xs → HeadOver b all

none_less : (y : List ℕ) → Sorted (y ∷ [])
none_less y k d low l = absurd (omega (arith, l))

put : (y : List ℕ) (xs : List (List ℕ)) → Sorted xs → Put y xs
put y [] s = record { all = y ∷ []; shuffled = IsPermutation-refl (y ∷ []); sorted = none_less y; over = λ b e h d l. e }
put y (x ∷ xs) s = go (bools (lt x y)) (put y xs (sorted_rest x xs s))
  where
    go : (lt x y ≡ true) ⊎ (lt x y ≡ false) → Put y xs → Put y (x ∷ xs)
    go (inr e) p = record { all = y ∷ x ∷ xs; shuffled = IsPermutation-refl (y ∷ x ∷ xs); sorted = sorted_first y (x ∷ xs) s (λ d l. e); over = λ b f h d l. f }
    go (inl e) p = record {
      all = x ∷ p.all;
      shuffled =
          IsPermutation-trans (y ∷ x ∷ xs) (x ∷ y ∷ xs) (x ∷ p.all)
          (IsPermutation-append (y ∷ x ∷ []) (x ∷ y ∷ []) xs xs (IsPermutation-append_comm (y ∷ []) (x ∷ [])) (IsPermutation-refl xs))
          (IsPermutation-append (x ∷ []) (x ∷ []) (y ∷ xs) p.all (IsPermutation-refl (x ∷ [])) p.shuffled);
      sorted = sorted_first x p.all p.sorted (p.over x (asymmetric x y e) (λ d l. s 0 d (omega arith) (omega (arith, l))));
      over = λ b f h d l. h d (omega arith);
    }

-- in order
pub record InOrder (xs : List (List ℕ)) : Type 0 where
  pub all : List (List ℕ)
  pub shuffled : IsPermutation xs all
  pub sorted : Sorted all

pub in_order : (xs : List (List ℕ)) → InOrder xs
in_order [] = record { all = []; shuffled = IsPermutation-refl []; sorted = λ k d low l. absurd (omega (arith, l)) }
in_order (x ∷ xs) = go (in_order xs)
  where
    go : InOrder xs → InOrder (x ∷ xs)
    go r =
        let p : Put x r.all = put x r.all r.sorted in
        record {
          all = p.all;
          shuffled = IsPermutation-trans (x ∷ xs) (x ∷ r.all) p.all (IsPermutation-append (x ∷ []) (x ∷ []) xs r.all (IsPermutation-refl (x ∷ [])) r.shuffled) p.shuffled;
          sorted = p.sorted;
        }
