-- The laws of rules over spans.
use Rattle.std.specs.Prelude.{ℕ, ◌<◌, ◌≤◌, List, [], ◌∷◌, All, length, map, slice_get}
use Rattle.std.proofs.Common.{zero, suc, arith}
use Rattle.chart_model.specs.Calculus.{Laws}
use Rattle.chart_model.specs.SpanLaws.{span_laws}
use Rattle.tree_model.specs.Structures.{IsPartialOrder, over}
use Rattle.fs_closing.specs.Rules.{Grammar, system_of}
use Rattle.tree_model.specs.Cuts.{Cut}
use Rattle.tree_model.specs.Mothers.{arity_at, AppliesAt, IsShapeAt}
use Rattle.tree_model.proofs.AllLaws.{rules_keep_shapes}
use Rattle.grammar_shapes.specs.declared.phrase_rule.PhraseRule.{PhraseRule}
use Rattle.grammar_shapes.specs.Ruled.{rule_of, system_in, IsRuleIn}
use Rattle.grammar_shapes.specs.Spanned.{span_calculus}

module _ (g : Grammar) (d r : Cut) where
  sized_at : (rules : List PhraseRule) → All (IsRuleIn g) rules → (rule : ℕ) → rule < length (map (rule_of g) rules) →
      (0 < arity_at (system_in g [] d r) (slice_get (map (rule_of g) rules) rule)) × (arity_at (system_in g [] d r) (slice_get (map (rule_of g) rules) rule) ≤ 4)
  sized_at [] h rule l = absurd (omega (arith, l))
  sized_at (x ∷ rules) h zero l = let z = h 0 x (omega arith) in (z.some, z.few)
  sized_at (x ∷ rules) h (suc rule) l = sized_at rules (λ k y q. h (suc k) y (omega (arith, q))) rule (omega (arith, l))

  pub rule_laws : (rules : List PhraseRule) → All (IsRuleIn g) rules → IsPartialOrder (system_of g) → Laws (span_calculus (system_in g rules d r))
  rule_laws rules sized order =
      let s = system_in g rules d r in
      record {
        of_shapes = rules_keep_shapes s order;
        of_covers = span_laws (length s.rules) (λ rule. arity_at s (slice_get s.rules rule)) (over s.system) (λ rule ms. AppliesAt s (slice_get s.rules rule) ms) (λ rule ms m. IsShapeAt s (slice_get s.rules rule) ms m)
            (λ rule l. sized_at rules sized rule l);
      }
