-- Shapes that are numbers, of which the smaller subsumes the larger, and rules as a table.
use Rattle.std.specs.Prelude.{◌≡◌, ℕ, ◌<◌, ◌≤◌, ◌&&◌, Bool, true, false, nat_le, Option, Some, None, List, [], ◌∷◌, length, slice_get}
use Rattle.chart_model.specs.Calculus.{Calculus}
pub use Rattle.chart_model.specs.Spans.{is_span, same_span, join_all}
use Rattle.chart_model.specs.Spans.{over_spans}
use Rattle.chart_model.specs.declared.span.Span.{Span}
use Rattle.chart_model.specs.declared.table_rule.TableRule.{TableRule}

-- each shape is at most the limit at its place
abbrev pub within : List ℕ → List ℕ → Bool
within [] [] = true
within [] (m ∷ ms) = false
within (l ∷ ls) [] = false
within (l ∷ ls) (m ∷ ms) = nat_le m l && within ls ms

abbrev pub arity_at : Option TableRule → ℕ
arity_at None = 1
arity_at (Some rule) = length rule.limits.items

abbrev pub applies_at : Option TableRule → List ℕ → Type 0
applies_at None ms = ⊥
applies_at (Some rule) ms = within rule.limits.items ms ≡ true

abbrev pub mother_at : Option TableRule → List ℕ → ℕ → Type 0
mother_at None ms m = ⊥
mother_at (Some rule) ms m = (within rule.limits.items ms ≡ true) × (rule.mother ≡ m)

abbrev pub table_calculus : List TableRule → Calculus ℕ Span
table_calculus rules =
    over_spans (length rules) (λ rule. arity_at (slice_get rules rule)) nat_le (λ rule ms. applies_at (slice_get rules rule) ms) (λ rule ms m. mother_at (slice_get rules rule) ms m)

-- a rule has one to four daughters
abbrev pub IsSized : TableRule → Type 0
IsSized rule = (0 < length rule.limits.items) × (length rule.limits.items ≤ 4)

-- the structures without a restrictor are numbers too
abbrev pub table_full : List TableRule → ℕ → List ℕ → ℕ → Type 0
table_full rules rule fs f = mother_at (slice_get rules rule) fs f
