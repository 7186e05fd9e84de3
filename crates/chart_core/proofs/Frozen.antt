-- Writing a representative.
use Rattle.std.specs.Prelude.{◌≡◌, ℕ, ◌<◌, Some, List, [], ◌∷◌, length, map, slice_set, slice_index_or}
use Rattle.std.proofs.Common.{refl, ap, sym, arith, zero, suc}
use Rattle.chart_core.specs.declared.Row.{Row}
use Rattle.chart_core.specs.View.{into_of, number_of, bare_row, KeepsRows}

module _ {X T C W B : Type 0} where
  abbrev pub frozen_row : Row X T C W B → ℕ → Row X T C W B
  frozen_row row n = record row { into = Some (record { 0 = n }) }

  pub into_set : (rows : List (Row X T C W B)) (p n : ℕ) (row : Row X T C W B) → into_of (slice_set rows p (frozen_row row n)) ≡ slice_set (into_of rows) p (Some n)
  into_set [] p n row = refl
  into_set (r ∷ rows) zero n row = refl
  into_set (r ∷ rows) (suc p) n row = ap (λ xs. number_of r.into ∷ xs) (into_set rows p n row)

  pub keep_set : (rows : List (Row X T C W B)) (p n : ℕ) (row : Row X T C W B) → p < length rows → row ≡ slice_index_or rows p row → KeepsRows rows (slice_set rows p (frozen_row row n))
  keep_set [] p n row l e = refl
  keep_set (r ∷ rows) zero n row l e = ap (λ (x : Row X T C W B). bare_row x ∷ map bare_row rows) (sym e)
  keep_set (r ∷ rows) (suc p) n row l e = ap (λ xs. bare_row r ∷ xs) (keep_set rows p n row (omega arith) e)
