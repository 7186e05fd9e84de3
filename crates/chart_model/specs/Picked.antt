-- What is found among rows of given numbers.
use Rattle.std.specs.Prelude.{ℕ, ◌+◌, ◌≤◌, Option, Some, None, List, [], ◌∷◌}
use Rattle.chart_model.specs.Calculus.{Calculus}
use Rattle.chart_model.specs.Tuples.{on_list}
use Rattle.chart_model.specs.Chart.{Row, Task}

-- strictly rising numbers, each at least i
pub data Rises : ℕ → List ℕ → Type 0 where
  no_more : {i : ℕ} → Rises i []
  next_is : {i : ℕ} {ps : List ℕ} (p : ℕ) → i ≤ p → Rises (p + 1) ps → Rises i (p ∷ ps)

module _ {M C : Type 0} (k : Calculus M C) (f : ℕ → Row M C → Option Task) where
  abbrev pub at_row : ℕ → Option (Row M C) → Option Task
  at_row p None = None
  at_row p (Some row) = f p row

  -- what the function gives for these rows alone
  abbrev pub picked : (ℕ → Option (Row M C)) → List ℕ → List Task
  picked get [] = []
  picked get (p ∷ ps) = on_list (at_row p (get p)) (picked get ps)
