-- From a row to its last representative.
use Rattle.std.specs.Prelude.{◌≡◌, ℕ, ◌-◌, ◌<◌, Option, Some, None, List, length, slice_get}
use Rattle.std.proofs.Common.{subst, arith}
use Rattle.chart_model.specs.At.{At, from_get}
use Rattle.chart_model.specs.Grown.{LeadsTo, ends, goes}
use Rattle.chart_core.specs.declared.chart.Core.{Core}
use Rattle.chart_core.specs.declared.Row.{Row}
use Rattle.chart_core.specs.declared.RowId.{RowId}
use Rattle.chart_core.specs.Grammar.{Grammar}
use Rattle.chart_core.specs.Kept.{IsCore, rows_in}
use Rattle.chart_core.specs.View.{into_of, number_of, row_of}
use Rattle.forest_unpack.proofs.Filling.{length_map}
use Rattle.forest_unpack.proofs.Rising.{rising_core}
use Rattle.forest_unpack.proofs.Telling.{at_mapped}

-- the host stands on the way from the row to its last representative, and is itself the representative of a row
pub record Follows {X T C W B : Type 0} (rows : List (Row X T C W B)) (row host : ℕ) : Type 0 where
  pub inside : host < length rows
  pub from : (i : ℕ) × At (into_of rows) i (Some host)
  pub leads : (h : ℕ) → LeadsTo (into_of rows) host h → LeadsTo (into_of rows) row h

module _ {X T C W B : Type 0} (rows : List (Row X T C W B)) where
  into_at : (i : ℕ) (row : Row X T C W B) (o : Option RowId) → slice_get rows i ≡ Some row → row.into ≡ o → At (into_of rows) i (number_of o)
  into_at i row o at e = subst (λ p. At (into_of rows) i (number_of p)) e (at_mapped (λ (r : Row X T C W B). number_of r.into) (from_get rows i row at))

  pub leads_itself : (i : ℕ) (row : Row X T C W B) → slice_get rows i ≡ Some row → row.into ≡ None → LeadsTo (into_of rows) i i
  leads_itself i row at e = ends (into_at i row None at e)

  pub follows_end : (i h : ℕ) (row : Row X T C W B) → Follows rows i h → slice_get rows h ≡ Some row → row.into ≡ None → LeadsTo (into_of rows) i h
  follows_end i h row f at e = f.leads h (ends (into_at h row None at e))

module _ {X T C W B M : Type 0} (g : Grammar T M C) (core : Core X T C W B) (is : IsCore g core) where
  target_low : (i r : ℕ) → At (into_of (rows_in core)) i (Some r) → r < length (rows_in core)
  target_low i r a =
      let low = (rising_core g core is).inside i r a in
      omega (arith, low, length_map (row_of g.meaning) (rows_in core))

  pub follows_first : (i : ℕ) (row : Row X T C W B) (first : RowId) → slice_get (rows_in core) i ≡ Some row → row.into ≡ Some first → Follows (rows_in core) i first.0
  follows_first i row first at e =
      let a = into_at (rows_in core) i row (Some first) at e in
      record { inside = target_low i first.0 a; from = (i, a); leads = λ h l. goes a l }

  pub follows_next : (i h : ℕ) (row : Row X T C W B) (next : RowId) → Follows (rows_in core) i h → slice_get (rows_in core) h ≡ Some row → row.into ≡ Some next → Follows (rows_in core) i next.0
  follows_next i h row next f at e =
      let a = into_at (rows_in core) h row (Some next) at e in
      record { inside = target_low h next.0 a; from = (h, a); leads = λ k l. f.leads k (goes a l) }

  pub next_later : (i h : ℕ) (row : Row X T C W B) (next : RowId) → Follows (rows_in core) i h → slice_get (rows_in core) h ≡ Some row → row.into ≡ Some next → h < next.0
  next_later i h row next f at e = (rising_core g core is).rises f.from.0 h next.0 f.from.1 (into_at (rows_in core) h row (Some next) at e)

-- less is left of n
pub less_left : (n a b : ℕ) → a < n → a < b → n - b < n - a
less_left n a b low later = omega (arith, low, later)
