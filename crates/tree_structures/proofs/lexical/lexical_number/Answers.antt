use Rattle.std.proofs.Common.{drop, slice_index_or, subst, arith, ◌+◌}
use Rattle.std.proofs.lemmas.List.{drop_more, drop_all}
use Rattle.book_signs.specs.Trees.{signs_of}
use Rattle.tree_structures.proofs.Climbing.{no_entry}
use Rattle.tree_structures.proofs.Asking.{IsClimbing, climb_first, climb_next, climb_never, climb_last, stays_on}
use Rattle.tree_structures.proofs.lexical.lexical_number.Goals as goal

pub returns-in_default-clause-number : goal.returns-in_default-clause-number
returns-in_default-clause-number c = no_entry (signs_of c.args.fulls.now) c.laws.ensures.order (rw c.in_default.is at c.in_ok-number.ensures.number)

pub loop-rule-init : goal.loop-rule-init
loop-rule-init c = climb_first c.args.fulls.now c.laws.ensures.order c.args.memo.now _ c.args.entry c.args.rules.now c.in-Some.number c.in_ok-number.ensures.stays (rw c.in-Some.is at c.in_ok-number.ensures.number)

pub under_number-requires-clause-right : goal.under_number-requires-clause-right
under_number-requires-clause-right c = c.loop-rule.invariant.stays.right

pub under_number-requires-clause-rule : goal.under_number-requires-clause-rule
under_number-requires-clause-rule c = c.requires.rules c.loop-rule.rule-index 0 c.loop-rule-test.true

pub under_number-requires-clause-known : goal.under_number-requires-clause-known
under_number-requires-clause-known c = (c.loop-rule.invariant.structure, c.loop-rule.invariant.at, c.loop-rule.invariant.lexical)

pub returns-in-None-clause-stays : goal.returns-in-None-clause-stays
returns-in-None-clause-stays c = stays_on c.args.fulls.now c.args.memo.now c.loop-rule.memo _ c.loop-rule.invariant.stays c.in_ok-above.ensures.stays

pub returns-in-None-clause-number : goal.returns-in-None-clause-number
returns-in-None-clause-number c =
    let t = c.args.fulls.now in
    let rules = c.args.rules.now in
    let k = c.loop-rule.rule-index in
    let here = subst (λ rest. IsClimbing t c.args.memo.now c.loop-rule.memo c.args.entry rules rest c.loop-rule.number) (drop_more rules k 0 c.loop-rule-test.true) c.loop-rule.invariant in
    climb_never t c.laws.ensures.order c.args.memo.now c.loop-rule.memo c.args.entry (slice_index_or rules k 0) rules (drop (k + 1) rules) c.loop-rule.number here
    ((rw c.in-None.is at c.in_ok-above.ensures.number) here.structure here.at)

pub loop-rule-preserved : goal.loop-rule-preserved
loop-rule-preserved c =
    let t = c.args.fulls.now in
    let rules = c.args.rules.now in
    let k = c.loop-rule.rule-index in
    let here = subst (λ rest. IsClimbing t c.args.memo.now c.loop-rule.memo c.args.entry rules rest c.loop-rule.number) (drop_more rules k 0 c.loop-rule-test.true) c.loop-rule.invariant in
    climb_next t c.laws.ensures.order c.args.memo.now c.loop-rule.memo c.args.entry (slice_index_or rules k 0) rules (drop (k + 1) rules) c.loop-rule.number here _ c.in-Some-2.above
    c.laws.ensures.arities (c.requires.rules k 0 c.loop-rule-test.true) c.in_ok-above.ensures.stays ((rw c.in-Some-2.is at c.in_ok-above.ensures.number) here.structure here.at)

pub returns-clause-stays : goal.returns-clause-stays
returns-clause-stays c = c.loop-rule.invariant.stays

pub returns-clause-number : goal.returns-clause-number
returns-clause-number c =
    let t = c.args.fulls.now in
    let rules = c.args.rules.now in
    climb_last t c.laws.ensures.order c.args.memo.now c.loop-rule.memo c.args.entry rules c.loop-rule.number
    (subst (λ rest. IsClimbing t c.args.memo.now c.loop-rule.memo c.args.entry rules rest c.loop-rule.number) (drop_all c.loop-rule.rule-index rules (omega arith)) c.loop-rule.invariant)
