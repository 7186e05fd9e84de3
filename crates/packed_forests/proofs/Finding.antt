-- The index as rows come.
use Rattle.std.specs.Prelude.{◌≡◌, ◌⊎◌, ◌&&◌, ℕ, ◌+◌, ◌<◌, ◌≤◌, Bool, true, false, not, is_some, is_none, Option, Some, None, List, [], ◌∷◌, ◌++◌, length, take, refl, slice_get, slice_set, All}
use Rattle.std.proofs.Common.{zero, suc, ap, subst, sym, ◌∙◌, arith, inl, inr}
use Rattle.std.proofs.lemmas.List.{take_more, length-take-le}
use Rattle.std.proofs.lemmas.Option.{slice_get_within, get_or_from_slice_get}
use Rattle.chart_model.specs.At.{At, at_append, at_last, at_snoc, Snoc, old, new}
use Rattle.chart_model.specs.Chart.{is_free, all_free}
use Rattle.chart_model.specs.Picked.{Rises, no_more}
use Rattle.chart_core.specs.declared.Row.{Row}
use Rattle.chart_core.specs.declared.RowId.{RowId}
use Rattle.chart_core.specs.Lists.{list_at, bucket, slot, pushed}
use Rattle.chart_core.specs.View.{into_of, number_of}
use Rattle.chart_core.proofs.Index.{lists_pushed, lists_kept}
use Rattle.packed_forests.specs.Inner.Found.{counts, AreFound}

set_at : (lists : List (List ℕ)) (s j : ℕ) (xs : List ℕ) → (list_at (slice_set lists s xs) j ≡ list_at lists j) ⊎ ((j ≡ s) × (list_at (slice_set lists s xs) j ≡ xs))
set_at [] s j xs = inl refl
set_at (l ∷ lists) zero zero xs = inr (refl, refl)
set_at (l ∷ lists) zero (suc j) xs = inl refl
set_at (l ∷ lists) (suc s) zero xs = inl refl
set_at (l ∷ lists) (suc s) (suc j) xs = elim (set_at lists s j xs) [ inl e ↦ inl e | inr e ↦ inr (ap suc e.0, e.1) ]

none_at : (lists : List (List ℕ)) → All (λ ns. ns ≡ []) lists → (j : ℕ) → list_at lists j ≡ []
none_at [] h j = refl
none_at (l ∷ lists) h zero = h 0 l (omega arith)
none_at (l ∷ lists) h (suc j) = none_at lists (λ i d q. h (suc i) d (omega arith)) j

next_taken : {A : Type 0} (xs : List A) (i : ℕ) (x : A) → slice_get xs i ≡ Some x → take (i + 1) xs ≡ take i xs ++ x ∷ []
next_taken xs i x e = take_more xs i x (slice_get_within xs i x e) ∙ ap (λ y. take i xs ++ y ∷ []) (get_or_from_slice_get xs i x x e)

module _ {X T C W B : Type 0} (cell : C → ℕ) (into : List (Option ℕ)) where
  module _ (rows : List (Row X T C W B)) (w : Row X T C W B) (lists : List (List ℕ)) (found : AreFound cell into rows lists) where
    abbrev Told : ℕ → Type 0
    Told p = (row : Row X T C W B) × At (rows ++ w ∷ []) p row × (counts into row ≡ true)

    old_one : (j n p : ℕ) → At (list_at lists j) n p → Told p
    old_one j n p a = let r = found.each j n p a in (r.0, at_append (w ∷ []) r.1, r.2)

    last_one : (n p : ℕ) → counts into w ≡ true → Snoc (bucket lists (cell w.cover)) (length rows) n p → Told p
    last_one n p is_so (old b) = old_one (slot lists (cell w.cover)) n p b
    last_one n p is_so (new e same) = (w, subst (λ q. At (rows ++ w ∷ []) q w) same (at_last rows w), is_so)

    abbrev longer : List ℕ
    longer = bucket lists (cell w.cover) ++ length rows ∷ []

    longer_by : counts into w ≡ true → (xs : List ℕ) (j n p : ℕ) → (xs ≡ list_at lists j) ⊎ ((j ≡ slot lists (cell w.cover)) × (xs ≡ longer)) → At xs n p → Told p
    longer_by is_so xs j n p (inl e) a = old_one j n p (subst (λ ys. At ys n p) e a)
    longer_by is_so xs j n p (inr e) a = last_one n p is_so (at_snoc (bucket lists (cell w.cover)) (length rows) n p (subst (λ ys. At ys n p) e.1 a))

    pushed_found : 0 < length lists → counts into w ≡ true → AreFound cell into (rows ++ w ∷ []) (pushed lists (cell w.cover) (length rows))
    pushed_found full is_so =
        record {
          all = lists_pushed (counts into) (λ row. cell row.cover) rows lists w full found.all;
          each = λ j n p a. longer_by is_so (list_at (pushed lists (cell w.cover) (length rows)) j) j n p (set_at lists (slot lists (cell w.cover)) j longer) a;
        }

    kept_found : counts into w ≡ false → AreFound cell into (rows ++ w ∷ []) lists
    kept_found is_not = record { all = lists_kept (counts into) (λ row. cell row.cover) rows lists w is_not found.all; each = old_one }

  -- no row yet
  pub none_found : (lists : List (List ℕ)) → All (λ ns. ns ≡ []) lists → AreFound {X = X} {T = T} {C = C} {W = W} {B = B} cell into [] lists
  none_found lists h =
      record {
        all = record { misses_none = λ p row a want. elim a [ ]; rising = λ j. subst (Rises 0) (sym (none_at lists h j)) no_more; inside = λ j n p a. elim (subst (λ xs. At xs n p) (none_at lists h j) a) [ ] };
        each = λ j n p a. elim (subst (λ xs. At xs n p) (none_at lists h j) a) [ ];
      }

  module _ (all : List (Row X T C W B)) (n : ℕ) (row : Row X T C W B) (lists : List (List ℕ)) (there : slice_get all n ≡ Some row) (found : AreFound cell into (take n all) lists) where
    size : length (take n all) ≡ n
    size = length-take-le n all (let l = slice_get_within all n row there in omega arith)

    pub enter_found : (next : List (List ℕ)) (key : ℕ) → 0 < length lists → counts into row ≡ true → key ≡ cell row.cover → next ≡ pushed lists key n → AreFound cell into (take (n + 1) all) next
    enter_found next key full is_so is e =
        let same : next ≡ pushed lists (cell row.cover) (length (take n all)) = e ∙ ap (λ q. pushed lists q n) is ∙ ap (pushed lists (cell row.cover)) (sym size) in
        subst (λ xs. AreFound cell into xs next) (sym (next_taken all n row there)) (subst (AreFound cell into (take n all ++ row ∷ [])) (sym same) (pushed_found (take n all) row lists found full is_so))

    pub skip_found : counts into row ≡ false → AreFound cell into (take (n + 1) all) lists
    skip_found is_not = subst (λ xs. AreFound cell into xs lists) (sym (next_taken all n row there)) (kept_found (take n all) row lists found is_not)

and_true : (b : Bool) → (b && true) ≡ b
and_true true = refl
and_true false = refl

free_first : (o : Option RowId) (intos : List (Option ℕ)) → is_free (number_of o ∷ intos) zero ≡ is_none o
free_first None intos = refl
free_first (Some r) intos = refl

free_rest : (o : Option ℕ) (intos : List (Option ℕ)) (i : ℕ) → is_free (o ∷ intos) (suc i) ≡ is_free intos i
free_rest None intos i = refl
free_rest (Some r) intos i = refl

pub none_is : {A : Type 0} (b : Bool) (o : Option A) → is_some o ≡ not b → b ≡ is_none o
none_is true o e = sym (ap not e)
none_is false o e = sym (ap not e)

module _ {X T C W B : Type 0} where
  free_is : (rows : List (Row X T C W B)) (i : ℕ) (row : Row X T C W B) → slice_get rows i ≡ Some row → is_free (into_of rows) i ≡ is_none row.into
  free_is [] i row e = absurd (cc)
  free_is (r ∷ rows) zero row e = let same : r ≡ row = cc in free_first r.into (into_of rows) ∙ ap (λ (q : Row X T C W B). is_none q.into) same
  free_is (r ∷ rows) (suc i) row e = free_rest (number_of r.into) (into_of rows) i ∙ free_is rows i row e

  never_free : (rows : List (Row X T C W B)) (i : ℕ) → length rows ≤ i → is_free (into_of rows) i ≡ false
  never_free [] i high = refl
  never_free (r ∷ rows) zero high = absurd (omega (arith, high))
  never_free (r ∷ rows) (suc i) high = free_rest (number_of r.into) (into_of rows) i ∙ never_free rows i (omega (arith, high))

  pub live_one : (rows : List (Row X T C W B)) (i : ℕ) (row : Row X T C W B) → slice_get rows i ≡ Some row → is_none row.into ≡ all_free (into_of rows) (i ∷ [])
  live_one rows i row e = sym (and_true (is_free (into_of rows) i) ∙ free_is rows i row e)

  pub live_none : (rows : List (Row X T C W B)) (i : ℕ) → length rows ≤ i → false ≡ all_free (into_of rows) (i ∷ [])
  live_none rows i high = sym (and_true (is_free (into_of rows) i) ∙ never_free rows i high)
