use Rattle.std.proofs.Common.{◌≡◌, true, slice_index_or, sym, ◌∙◌, subst}
use Rattle.type_hierarchy.specs.Table.{is_below}
use Rattle.fs_closing.specs.Constraints.{IsConstraint}
use Rattle.fs_closing.specs.Rules.{no_rule, rules_with_facts}
use Rattle.fs_closing.proofs.HasLemmas.{Has-at}
use Rattle.fs_closing.proofs.RangeLemmas.{Has-of_filter}
use Rattle.fs_closing.proofs.RuleRowLemmas.{rule_in}
use Rattle.fs_closing.proofs.system.TypeSystem.greatest_above.Goals as goal

pub rule_type-requires : goal.rule_type-requires
rule_type-requires c =
    let g = c.args.self.now in
    let list = c.rules_above-rule-items.result.now in
    let j = slice_index_or list c.loop-rule.rule-index 0 in
    let at = Has-at list c.loop-rule.rule-index 0 c.loop-rule-test.true in
    let r = Has-of_filter (λ i. is_below g.types c.args.t (slice_index_or g.rules i no_rule).ty) (rules_with_facts g.rules) j (c.rules_above-rule-items.ensures.to j at) in
    rule_in g.rules j r.0

pub loop-rule-preserved : goal.loop-rule-preserved
loop-rule-preserved c =
    let g = c.args.self.now in
    let list = c.rules_above-rule-items.result.now in
    let j = slice_index_or list c.loop-rule.rule-index 0 in
    let at = Has-at list c.loop-rule.rule-index 0 c.loop-rule-test.true in
    let r = Has-of_filter (λ i. is_below g.types c.args.t (slice_index_or g.rules i no_rule).ty) (rules_with_facts g.rules) j (c.rules_above-rule-items.ensures.to j at) in
    let k = c.in-Some.known.now in (
      subst (λ u. is_below g.types c.args.t u ≡ true) (sym (c.in-Some.ensures.0 ∙ c.rule_type.ensures.value)) r.1,
      subst (λ u. IsConstraint g u k.graph) (sym c.in-Some.ensures.0) c.in-Some.ensures.1,
    )
