-- The daughters of a row, and the rows of a slice.
use Rattle.std.specs.Prelude.{◌≡◌, ℕ, ◌<◌, Option, Some, None, IfSome, All, List, length}
use Rattle.std.proofs.Common.{suc, get_or, arith}
use Rattle.chart_model.specs.Tuples.{on_list}
use Rattle.chart_core.specs.declared.RowId.{RowId}
use Rattle.chart_core.specs.declared.Daughters.{Daughters}
use Rattle.chart_core.specs.View.{number_of, list_of}
use Rattle.line_charts.proofs.Lists.{at_or, or_at}

module _ (P : ℕ → Type 0) where
  all_on : (o : Option RowId) (xs : List ℕ) → All P (on_list (number_of o) xs) → IfSome o (λ r. P r.0) × All P xs
  all_on None xs h = (tt, h)
  all_on (Some x) xs h = (h 0 0 (omega arith), λ i d low. h (suc i) d (omega (arith, low)))

  -- what holds of all daughters holds of the second, and of the third
  pub of_second : (d : Daughters) → All P (list_of d) → IfSome d.b (λ r. P r.0)
  of_second d h = (all_on d.b _ (all_on d.a _ h).1).0

  pub of_third : (d : Daughters) → All P (list_of d) → IfSome d.c (λ r. P r.0)
  of_third d h = (all_on d.c _ (all_on d.b _ (all_on d.a _ h).1).1).0

-- what is read within a list is no default
pub same_read : {A : Type 0} (xs : List A) (i : ℕ) (d e : A) → i < length xs → get_or xs i d ≡ get_or xs i e
same_read xs i d e low = at_or (or_at xs i e low) d
