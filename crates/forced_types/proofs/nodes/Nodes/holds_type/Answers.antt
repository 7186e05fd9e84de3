use Rattle.std.proofs.Common.{◌≡◌, true, slice_index_or, arith, subst, sym}
use Rattle.type_hierarchy.specs.Table.{is_below}
use Rattle.fs_closing.specs.Rules.{no_rule, rules_with_facts}
use Rattle.fs_closing.proofs.HasLemmas.{Has-at}
use Rattle.fs_closing.proofs.RangeLemmas.{Has-filter, Has-of_filter}
use Rattle.fs_closing.proofs.RuleRowLemmas.{rule_in, rule_has}
use Rattle.fs_closing.proofs.StepLemmas.{facts_of_rule}
use Rattle.forced_types.specs.Inner.Closed.{AreHeld}
use Rattle.forced_types.proofs.TypeLemmas.{at_every}
use Rattle.forced_types.proofs.nodes.Nodes.holds_type.Goals as goal

pub holds_rule-requires-clause-rule : goal.holds_rule-requires-clause-rule
holds_rule-requires-clause-rule c =
    let types = c.args.given.system.now.types in
    let rules = c.args.given.system.now.rules in
    let j = slice_index_or c.rules_above-rules.result.now c.loop-k.k 0 in
    rule_in rules j (Has-of_filter (λ i. is_below types c.args.ty (slice_index_or rules i no_rule).ty) (rules_with_facts rules) j
    (c.rules_above-rules.ensures.to j (Has-at c.rules_above-rules.result.now c.loop-k.k 0 (omega (arith, c.loop-k-test.true))))).0

pub returns : goal.returns
returns c = λ _ u low d h.
    let types = c.args.given.system.now.types in
    let rules = c.args.given.system.now.rules in
    let r = facts_of_rule rules u d h in
    let under : is_below types c.args.ty (slice_index_or rules r.0 no_rule).ty ≡ true = subst (λ x. is_below types c.args.ty x ≡ true) (sym r.2) low in
    let listed = c.rules_above-rules.ensures.back r.0
    (Has-filter (λ i. is_below types c.args.ty (slice_index_or rules i no_rule).ty) (rules_with_facts rules) r.0 (rule_has rules r.0 d r.1 r.3) under) in
    at_every c.rules_above-rules.result.now (λ j. AreHeld types c.args.self.now c.args.n c.args.left (slice_index_or rules j no_rule).claims) 0
    (λ k i. c.loop-k.invariant k (omega (arith, c.loop-k-test.false))) r.0 listed d r.3
