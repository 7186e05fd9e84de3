-- Daughters that have a representative.
use Rattle.std.specs.Prelude.{◌≡◌, ℕ, ◌<◌, Bool, true, false, Option, Some, None, is_some, is_none, not, List, [], ◌∷◌, length, slice_index_or, All, if◌then◌else◌}
use Rattle.std.proofs.Common.{refl, ap, sym, ◌∙◌, subst, arith, zero, suc}
use Rattle.chart_model.specs.Tuples.{on_list}
use Rattle.chart_model.specs.Chart as model
use Rattle.chart_core.specs.declared.Row.{Row}
use Rattle.chart_core.specs.declared.RowId.{RowId}
use Rattle.chart_core.specs.View.{number_of, one_of, into_of}

pub is_none_number : (o : Option RowId) → is_none (number_of o) ≡ is_none o
is_none_number None = refl
is_none_number (Some id) = refl

free_next : (o : Option ℕ) (into : List (Option ℕ)) (i : ℕ) → model.is_free (o ∷ into) (suc i) ≡ model.is_free into i
free_next None into i = refl
free_next (Some r) into i = refl

free_first : (o : Option ℕ) (into : List (Option ℕ)) → model.is_free (o ∷ into) zero ≡ is_none o
free_first None into = refl
free_first (Some r) into = refl

none_if : (o : Option RowId) (b : Bool) → is_some o ≡ b → is_none o ≡ not b
none_if None b e = ap not e
none_if (Some id) b e = ap not e

by_free : (into : List (Option ℕ)) (i : ℕ) (b : Bool) → model.is_free into i ≡ not b → model.first_frosted into (i ∷ []) ≡ (if b then Some i else None)
by_free into i true e = rw e refl
by_free into i false e = rw e refl

pub one_below : (n : ℕ) (o : Option RowId) (id : RowId) → o ≡ Some id → All (λ d. d < n) (one_of o) → id.0 < n
one_below n None id e h = absurd (cc)
one_below n (Some x) id e h = let z : x.0 ≡ id.0 = cc in subst (λ d. d < n) z (h 0 x.0 (omega arith))

module _ {X T C W B : Type 0} where
  -- a row is free where it has no representative
  pub free_row : (rows : List (Row X T C W B)) (i : ℕ) (row : Row X T C W B) → i < length rows → row ≡ slice_index_or rows i row → model.is_free (into_of rows) i ≡ is_none row.into
  free_row [] i row l e = absurd (omega arith)
  free_row (r ∷ rows) zero row l e = free_first (number_of r.into) (into_of rows) ∙ is_none_number r.into ∙ ap (λ (x : Row X T C W B). is_none x.into) (sym e)
  free_row (r ∷ rows) (suc i) row l e = free_next (number_of r.into) (into_of rows) i ∙ free_row rows i row (omega arith) e

  pub one_frosted : (rows : List (Row X T C W B)) (o : Option RowId) (id : RowId) (row : Row X T C W B) (b : Bool) → o ≡ Some id → id.0 < length rows → row ≡ slice_index_or rows id.0 row → is_some row.into ≡ b → (if b then Some id.0 else None) ≡ model.first_frosted (into_of rows) (one_of o)
  one_frosted rows o id row b e l is h =
      sym (ap (λ x. model.first_frosted (into_of rows) (one_of x)) e ∙ by_free (into_of rows) id.0 b (free_row rows id.0 row l is ∙ none_if row.into b h))

abbrev pub or_else : Option ℕ → Option ℕ → Option ℕ
or_else (Some x) o = Some x
or_else None o = o

by_first : (into : List (Option ℕ)) (x : ℕ) (rest : List ℕ) (b : Bool) → model.is_free into x ≡ b → model.first_frosted into (x ∷ rest) ≡ or_else (model.first_frosted into (x ∷ [])) (model.first_frosted into rest)
by_first into x rest true e = rw e refl
by_first into x rest false e = rw e refl

pub front_frosted : (into : List (Option ℕ)) (o : Option RowId) (rest : List ℕ) → model.first_frosted into (on_list (number_of o) rest) ≡ or_else (model.first_frosted into (one_of o)) (model.first_frosted into rest)
front_frosted into None rest = refl
front_frosted into (Some id) rest = by_first into id.0 rest (model.is_free into id.0) refl

-- the first of a list of options that is there
pub frosted_here : (into : List (Option ℕ)) (o : Option RowId) (rest : List ℕ) (id : RowId) → Some id.0 ≡ model.first_frosted into (one_of o) → Some id.0 ≡ model.first_frosted into (on_list (number_of o) rest)
frosted_here into o rest id h = sym (front_frosted into o rest ∙ ap (λ x. or_else x (model.first_frosted into rest)) (sym h))

pub frosted_later : (into : List (Option ℕ)) (o : Option RowId) (rest : List ℕ) → None ≡ model.first_frosted into (one_of o) → model.first_frosted into (on_list (number_of o) rest) ≡ model.first_frosted into rest
frosted_later into o rest h = front_frosted into o rest ∙ ap (λ x. or_else x (model.first_frosted into rest)) (sym h)

-- what holds of all holds of the first, and of the rest
pub all_first : (P : ℕ → Type 0) (o : Option ℕ) (rest : List ℕ) → All P (on_list o rest) → All P (on_list o [])
all_first P None rest h = λ k d l. absurd (omega arith)
all_first P (Some x) rest h = only P x (h 0 x (omega arith))
  where
    only : (P : ℕ → Type 0) (x : ℕ) → P x → All P (x ∷ [])
    only P x p zero d l = p
    only P x p (suc k) d l = absurd (omega arith)

pub all_rest : (P : ℕ → Type 0) (o : Option ℕ) (rest : List ℕ) → All P (on_list o rest) → All P rest
all_rest P None rest h = h
all_rest P (Some x) rest h = λ k d l. h (suc k) d (omega arith)

all_free_if : (into : List (Option ℕ)) (x : ℕ) (ds : List ℕ) (b : Bool) → model.is_free into x ≡ b → (model.all_free into ds ≡ is_none (model.first_frosted into ds)) → model.all_free into (x ∷ ds) ≡ is_none (model.first_frosted into (x ∷ ds))
all_free_if into x ds true e h = rw e h
all_free_if into x ds false e h = rw e refl

-- all are free where none is the first that is not
pub all_free_is : (into : List (Option ℕ)) (ds : List ℕ) → model.all_free into ds ≡ is_none (model.first_frosted into ds)
all_free_is into [] = refl
all_free_is into (x ∷ ds) = all_free_if into x ds (model.is_free into x) refl (all_free_is into ds)
