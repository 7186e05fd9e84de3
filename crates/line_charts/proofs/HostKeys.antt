-- The row of a host has a shape, and the graph of each shape is short.
use Rattle.std.specs.Prelude.{◌≡◌, ℕ, ◌<◌, Option, Some, None, MatchOption, length, slice_get}
use Rattle.std.proofs.Common.{◌∙◌, ap, sym, subst}
use Rattle.chart_model.specs.declared.span.Span.{Span}
use Rattle.chart_model.specs.At.{from_get, at_below}
use Rattle.chart_core.specs.declared.Row.{Row}
use Rattle.chart_core.specs.declared.ended.Finished.{Finished}
use Rattle.chart_core.specs.Kept.{core_of, rows_in}
use Rattle.chart_core.specs.View as seen
use Rattle.fs_trim.specs.Cutting.{IsShort}
use Rattle.grammar_shapes.specs.declared.shapes.GrammarShapes.{GrammarShapes}
use Rattle.grammar_shapes.specs.Shaped.{Shape, graph_of}
use Rattle.grammar_shapes.specs.Systems.{grammar_of, rules_of, Belongs}
use Rattle.grammar_shapes.specs.Spanned.{span_calculus}
use Rattle.line_charts.specs.Inner.Hosts.{HasShape}
use Rattle.line_charts.specs.Inner.KeyedHosts.{AreBelonging}
use Rattle.line_charts.proofs.Lists.{at_or}

some_one : {A : Type 0} {x y : A} → Some x ≡ Some y → x ≡ y
some_one e = cc

module _ {X T C W B : Type 0} (f : Finished X T C W B) (i : ℕ) (h : HasShape f i) where
  pub host_below : i < length (rows_in (core_of f))
  host_below = at_below (from_get (rows_in (core_of f)) i h.row h.at)

  -- the row that stands there
  pub host_row : (row : Row X T C W B) → slice_get (rows_in (core_of f)) i ≡ Some row → row ≡ h.row
  host_row row at = some_one (sym at ∙ h.at)

  -- so it has one
  pub host_some : (row : Row X T C W B) → slice_get (rows_in (core_of f)) i ≡ Some row → row.shape ≡ None → ⊥
  host_some row at none = let some = sym none ∙ ap (λ (r : Row X T C W B). r.shape) (host_row row at) ∙ h.is in absurd (cc)

module _ {X W B : Type 0} (s : GrammarShapes) (f : Finished X Shape Span W B) (belonging : AreBelonging s f) (i : ℕ) where
  pub host_short : (row : Row X Shape Span W B) → slice_get (rows_in (core_of f)) i ≡ Some row → (shape : Shape) → row.shape ≡ Some shape → IsShort (grammar_of s) (graph_of shape)
  host_short row at shape is =
      let a = from_get (rows_in (core_of f)) i row at in
      let b = subst (seen.Belongs (span_calculus (rules_of s)) (Belongs s)) (at_or a row) (belonging i row (at_below a)) in
      let o = subst (λ (o : Option Shape). MatchOption o (Unit {0}) (λ shape. Belongs s shape × (span_calculus (rules_of s)).proper row.cover)) is b in
      o.0.short
