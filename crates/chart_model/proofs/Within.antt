-- The counts that are left to add.
use Rattle.std.specs.Prelude.{◌≡◌, ℕ, ◌+◌, ◌<◌, ◌≤◌, ◌&&◌, nat_le, true, false, List, [], ◌∷◌, ◌++◌, length, drop, slice_index_or}
use Rattle.std.proofs.Common.{refl, ap, sym, ◌∙◌, arith, zero, suc, leb-true, drop-cons, add-one, append_assoc, le-leb, get_or, append-nil}
use Rattle.std.proofs.lemmas.List.{drop_all}
use Rattle.chart_model.specs.Lists.{add_all, all_within}
use Rattle.chart_model.specs.inner.TableLaws.{and_parts}

pub next_sums : (cs ds : List ℕ) (i : ℕ) → i < length cs → i < length ds → add_all (drop i cs) (drop i ds) ≡ (get_or cs i 0 + get_or ds i 0) ∷ add_all (drop (i + 1) cs) (drop (i + 1) ds)
next_sums cs ds i l k = rw (add-one, drop-cons cs i 0 l, drop-cons ds i 0 k) refl

pub sums_more : (cs ds found : List ℕ) (i count : ℕ) → i < length cs → i < length ds → get_or cs i 0 + get_or ds i 0 ≡ count → found ++ add_all (drop i cs) (drop i ds) ≡ add_all cs ds → (found ++ count ∷ []) ++ add_all (drop (i + 1) cs) (drop (i + 1) ds) ≡ add_all cs ds
sums_more cs ds found i count l k e h =
    append_assoc found (count ∷ []) (add_all (drop (i + 1) cs) (drop (i + 1) ds)) ∙ ap (λ n. found ++ n ∷ add_all (drop (i + 1) cs) (drop (i + 1) ds)) (sym e) ∙ ap (λ xs. found ++ xs) (sym (next_sums cs ds i l k)) ∙ h

pub next_within : (cs ds bs : List ℕ) (i : ℕ) → i < length cs → i < length ds → i < length bs → all_within (add_all (drop i cs) (drop i ds)) (drop i bs) ≡ nat_le (get_or cs i 0 + get_or ds i 0) (get_or bs i 0) && all_within (add_all (drop (i + 1) cs) (drop (i + 1) ds)) (drop (i + 1) bs)
next_within cs ds bs i l k m = rw (add-one, drop-cons cs i 0 l, drop-cons ds i 0 k, drop-cons bs i 0 m) refl

pub within_more : (cs ds bs : List ℕ) (i : ℕ) → i < length cs → i < length ds → i < length bs → get_or cs i 0 + get_or ds i 0 ≤ get_or bs i 0 → all_within (add_all (drop i cs) (drop i ds)) (drop i bs) ≡ all_within (add_all (drop (i + 1) cs) (drop (i + 1) ds)) (drop (i + 1) bs)
within_more cs ds bs i l k m h = next_within cs ds bs i l k m ∙ ap (λ b. b && all_within (add_all (drop (i + 1) cs) (drop (i + 1) ds)) (drop (i + 1) bs)) (le-leb (get_or cs i 0 + get_or ds i 0) (get_or bs i 0) h)

too_many : (a b : ℕ) → b < a → nat_le a b ≡ false
too_many a b h = grind arith

pub within_not : (cs ds bs : List ℕ) (i : ℕ) → i < length cs → i < length ds → i < length bs → get_or bs i 0 < get_or cs i 0 + get_or ds i 0 → all_within (add_all (drop i cs) (drop i ds)) (drop i bs) ≡ false
within_not cs ds bs i l k m h = next_within cs ds bs i l k m ∙ ap (λ b. b && all_within (add_all (drop (i + 1) cs) (drop (i + 1) ds)) (drop (i + 1) bs)) (too_many (get_or cs i 0 + get_or ds i 0) (get_or bs i 0) h)

pub at_end_sums : (cs ds found : List ℕ) (i : ℕ) → length cs ≤ i → found ++ add_all (drop i cs) (drop i ds) ≡ add_all cs ds → found ≡ add_all cs ds
at_end_sums cs ds found i l h = sym (append-nil found) ∙ ap (λ xs. found ++ add_all xs (drop i ds)) (sym (drop_all i cs l)) ∙ h

pub at_end_within : (cs ds bs : List ℕ) (i : ℕ) → length cs ≤ i → length bs ≤ i → all_within (add_all cs ds) bs ≡ all_within (add_all (drop i cs) (drop i ds)) (drop i bs) → all_within (add_all cs ds) bs ≡ true
at_end_within cs ds bs i l m h = h ∙ ap (λ xs. all_within (add_all xs (drop i ds)) (drop i bs)) (drop_all i cs l) ∙ ap (λ xs. all_within [] xs) (drop_all i bs m)

-- where the sums are within their bound, each of them is
pub each_within : (cs ds bs : List ℕ) (i : ℕ) → length cs ≡ length bs → length ds ≡ length bs → i < length cs → all_within (add_all cs ds) bs ≡ true → slice_index_or cs i 0 + slice_index_or ds i 0 ≤ slice_index_or bs i 0
each_within [] ds bs i e f l h = absurd (omega (arith, l))
each_within (c ∷ cs) [] [] i e f l h = absurd (omega (arith, e))
each_within (c ∷ cs) [] (b ∷ bs) i e f l h = absurd (omega (arith, f))
each_within (c ∷ cs) (d ∷ ds) [] i e f l h = absurd (omega (arith, e))
each_within (c ∷ cs) (d ∷ ds) (b ∷ bs) zero e f l h = leb-true (c + d) b (and_parts (nat_le (c + d) b) (all_within (add_all cs ds) bs) h).0
each_within (c ∷ cs) (d ∷ ds) (b ∷ bs) (suc i) e f l h = each_within cs ds bs i (omega (arith, e)) (omega (arith, f)) (omega (arith, l)) (and_parts (nat_le (c + d) b) (all_within (add_all cs ds) bs) h).1
