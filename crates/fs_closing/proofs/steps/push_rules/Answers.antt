use Rattle.std.proofs.Common.{slice_index_or, refl, subst}
use Rattle.std.proofs.lemmas.List.{take_more, take_all}
use Rattle.type_hierarchy.specs.Table.{is_below}
use Rattle.fs_closing.specs.declared.tasks.Entry.{Entry}
use Rattle.fs_closing.specs.Rules.{no_rule, rules_with_facts}
use Rattle.fs_closing.specs.Work.{work_of}
use Rattle.fs_closing.proofs.HasLemmas.{Has-at}
use Rattle.fs_closing.proofs.RangeLemmas.{Has-of_filter}
use Rattle.fs_closing.proofs.RuleRowLemmas.{rule_in}
use Rattle.fs_closing.proofs.StepLemmas.{TakesRules, takes_more, takes_step, takes_same, takes_all}
use Rattle.fs_closing.proofs.steps.push_rules.Goals as goal

pub push_rule-requires-clause-rule_in : goal.push_rule-requires-clause-rule_in
push_rule-requires-clause-rule_in c =
    let list = c.rules_above-rule-items.result.now in
    let at = Has-at list c.loop-rule.rule-index 0 c.loop-rule-test.true in
    let g = c.args.system.now in
    let r = Has-of_filter (λ j. is_below g.types c.args.ty (slice_index_or g.rules j no_rule).ty) (rules_with_facts g.rules)
    (slice_index_or list c.loop-rule.rule-index 0) (c.rules_above-rule-items.ensures.to (slice_index_or list c.loop-rule.rule-index 0) at) in
    rule_in g.rules (slice_index_or list c.loop-rule.rule-index 0) r.0

pub loop-rule-preserved : goal.loop-rule-preserved
loop-rule-preserved c =
    let list = c.rules_above-rule-items.result.now in
    let j = slice_index_or list c.loop-rule.rule-index 0 in
    let entry : Entry = record { node = c.args.node; rule = j; from = 0 } in
    record {
      takes = takes_more c.args.system.now c.args.node c.args.old c.args.other j _ _ _ _ _ entry (take_more list c.loop-rule.rule-index 0 c.loop-rule-test.true)
          refl refl refl c.loop-rule.invariant.takes
          (takes_step c.args.system.now c.args.old c.args.other j c.loop-rule.tasks c.push_rule.new.tasks entry c.in_ok-push_rule.ensures.work);
      ready = λ size types h old. c.in_ok-push_rule.ensures.ready size types h (c.loop-rule.invariant.ready size types h old);
    }

pub returns-clause-work : goal.returns-clause-work
returns-clause-work c =
    let list = c.rules_above-rule-items.result.now in
    let g = c.args.system.now in
    takes_all g c.args.node c.args.ty c.args.old c.args.other _ _
    (takes_same g c.args.node c.args.old c.args.other list _ _ _ c.rules_above-rule-items.ensures
    (subst (λ l. TakesRules g c.args.node c.args.old c.args.other l (work_of g.rules c.args.tasks.now) (work_of g.rules c.loop-rule.tasks))
    (take_all c.loop-rule.rule-index list c.loop-rule-test.false) c.loop-rule.invariant.takes))
