-- A scan of the rows at given places.
use Rattle.std.specs.Prelude.{◌≡◌, ℕ, ◌+◌, ◌<◌, ◌≤◌, ◌++◌, Bool, true, false, Some, None, List, [], ◌∷◌, length, drop, slice_index_or}
use Rattle.std.specs.List.{find, filter}
use Rattle.std.proofs.Common.{refl, ap, sym, ◌∙◌, add-one, drop-cons, append_assoc, append-nil, get_or, cond}
use Rattle.std.proofs.lemmas.List.{drop_all}
use Rattle.chart_core.specs.Tests.{at_place, passes}
use Rattle.chart_core.proofs.Buckets.{get_here}

pub place_is : {A : Type 0} (test : A → Bool) (rows : List A) (p : ℕ) (row : A) → p < length rows → row ≡ slice_index_or rows p row → at_place test rows p ≡ test row
place_is test rows p row l e = ap (passes test) (get_here rows p row l e)

next_place : (ps : List ℕ) (i : ℕ) → i < length ps → drop i ps ≡ get_or ps i 0 ∷ drop (i + 1) ps
next_place ps i l = rw (add-one, drop-cons ps i 0 l) refl

module _ (t : ℕ → Bool) where
  pub find_yes : (ps : List ℕ) (i : ℕ) → i < length ps → t (get_or ps i 0) ≡ true → find t ps ≡ find t (drop i ps) → find t ps ≡ Some (get_or ps i 0)
  find_yes ps i l is h = h ∙ ap (find t) (next_place ps i l) ∙ ap (λ b. cond b (Some (get_or ps i 0)) (find t (drop (i + 1) ps))) is

  pub find_no : (ps : List ℕ) (i : ℕ) → i < length ps → t (get_or ps i 0) ≡ false → find t ps ≡ find t (drop i ps) → find t ps ≡ find t (drop (i + 1) ps)
  find_no ps i l is h = h ∙ ap (find t) (next_place ps i l) ∙ ap (λ b. cond b (Some (get_or ps i 0)) (find t (drop (i + 1) ps))) is

  pub find_end : (ps : List ℕ) (i : ℕ) → length ps ≤ i → find t ps ≡ find t (drop i ps) → find t ps ≡ None
  find_end ps i l h = h ∙ ap (find t) (drop_all i ps l)

  pub filter_yes : (ps found all : List ℕ) (i : ℕ) → i < length ps → t (get_or ps i 0) ≡ true → found ++ filter t (drop i ps) ≡ all → (found ++ get_or ps i 0 ∷ []) ++ filter t (drop (i + 1) ps) ≡ all
  filter_yes ps found all i l is h =
      append_assoc found (get_or ps i 0 ∷ []) (filter t (drop (i + 1) ps))
      ∙ ap (λ xs. found ++ xs) (sym (ap (filter t) (next_place ps i l) ∙ ap (λ b. cond b (get_or ps i 0 ∷ filter t (drop (i + 1) ps)) (filter t (drop (i + 1) ps))) is))
      ∙ h

  pub filter_no : (ps found all : List ℕ) (i : ℕ) → i < length ps → t (get_or ps i 0) ≡ false → found ++ filter t (drop i ps) ≡ all → found ++ filter t (drop (i + 1) ps) ≡ all
  filter_no ps found all i l is h =
      ap (λ xs. found ++ xs) (sym (ap (filter t) (next_place ps i l) ∙ ap (λ b. cond b (get_or ps i 0 ∷ filter t (drop (i + 1) ps)) (filter t (drop (i + 1) ps))) is))
      ∙ h

  pub filter_end : (ps found all : List ℕ) (i : ℕ) → length ps ≤ i → found ++ filter t (drop i ps) ≡ all → found ≡ all
  filter_end ps found all i l h = sym (append-nil found) ∙ ap (λ xs. found ++ filter t xs) (sym (drop_all i ps l)) ∙ h
