-- Counts of live hosts.
use Rattle.std.specs.Prelude.{◌≡◌, ℕ, ◌+◌, ◌<◌, ◌&&◌, nat_le, Bool, true, false, is_some, is_none, Option, Some, None, List, [], ◌∷◌, refl, option_map}
use Rattle.std.proofs.Common.{zero, suc, arith}
use Rattle.std.proofs.lemmas.Bool.{lt-leb}
use Rattle.chart_model.specs.Calculus.{Calculus}
use Rattle.chart_model.specs.Below.{host_count, is_counted, IsLeastSize}
use Rattle.chart_core.specs.declared.Row.{Row}
use Rattle.chart_core.specs.declared.RowId.{RowId}
use Rattle.chart_core.specs.View.{row_of, rows_of, into_of}
use Rattle.chart_core.specs.Counted.{tally}

and_false : (a : Bool) → a && false ≡ false
and_false true = refl
and_false false = refl

module _ {X T C W B : Type 0} (extent : C → ℕ) where
  -- no size is below zero
  pub tally_zero : (least most : ℕ) (rows : List (Row X T C W B)) → tally extent least most 0 rows ≡ 0
  tally_zero least most [] = refl
  tally_zero least most (row ∷ rows) =
      rw (lt-leb (extent row.cover + 1) 0 (omega arith), and_false (is_some row.shape && nat_le least row.level && nat_le row.level most), and_false (is_none row.into)) (tally_zero least most rows)

  -- where some are counted, the bound isn't zero
  pub tally_some : (least most limit n : ℕ) (rows : List (Row X T C W B)) → limit < tally extent least most n rows → 0 < n
  tally_some least most limit zero rows h = absurd (omega (arith, tally_zero least most rows, h))
  tally_some least most limit (suc n) rows h = omega arith

same_shape : {T M : Type 0} (meaning : T → M) (o : Option T) → is_some (option_map meaning o) ≡ is_some o
same_shape meaning None = refl
same_shape meaning (Some t) = refl

module _ {X T C W B M : Type 0} (extent : C → ℕ) (k : Calculus M C) (meaning : T → M) (sizes : (c : C) → k.size c ≡ extent c) where
  same_test : (least most n : ℕ) (row : Row X T C W B) → is_counted k least most n (row_of meaning row) ≡ (is_some row.shape && nat_le least row.level && nat_le row.level most && nat_le (extent row.cover + 1) n)
  same_test least most n row = rw (same_shape meaning row.shape, sizes row.cover) refl

  one_host : (least most n : ℕ) (row : Row X T C W B) (rows : List (Row X T C W B)) (o : Option RowId) → row.into ≡ o → tally extent least most n rows ≡ host_count k least most n (rows_of meaning rows) (into_of rows) → tally extent least most n (row ∷ rows) ≡ host_count k least most n (rows_of meaning (row ∷ rows)) (into_of (row ∷ rows))
  one_host least most n row rows (Some r) e h = rw e h
  one_host least most n row rows None e h = rw (e, same_test least most n row, h) refl

  pub tally_is : (least most n : ℕ) (rows : List (Row X T C W B)) → tally extent least most n rows ≡ host_count k least most n (rows_of meaning rows) (into_of rows)
  tally_is least most n [] = refl
  tally_is least most n (row ∷ rows) = one_host least most n row rows row.into refl (tally_is least most n rows)

pub least_same : (f g : ℕ → ℕ) (limit b : ℕ) (o : Option ℕ) → ((n : ℕ) → f n ≡ g n) → IsLeastSize f limit b o → IsLeastSize g limit b o
least_same f g limit b None same is = omega (arith, same b, is)
least_same f g limit b (Some n) same is = (is.0, omega (arith, same n, is.1), omega (arith, same (n + 1), is.2))
