use Rattle.std.proofs.Common.{◌<◌, ◌++◌, ◌∙◌, All, length, map, replicate, refl, sym, ap, subst}
use Rattle.derivation.specs.Trees.{phrase}
use Rattle.derivation.specs.Views.{derivation_of, in_order}
use Rattle.tree_faults.specs.WordBooks.{IsNumbered, said_by}
use Rattle.tree_faults.specs.declared.opened.Opened.{Opened}
use Rattle.tree_faults.specs.Inner.Chains.{next_place}
use Rattle.tree_faults.specs.Inner.Walks.{open_of}
use Rattle.tree_faults.proofs.Walked.{below_leaves, walking_begin, waits_low, fails_low, walk_fault}
use Rattle.tree_faults.proofs.misspelled.misspelled_below.Goals as goal

pub walk-init : goal.walk-init
walk-init c = walking_begin (said_by c.args.book.now) c.new-waiting.result.items c.new-here.result c.args.rule c.args.daughters.now c.new-waiting.ensures.items c.new-here.ensures.rule c.new-here.ensures.daughters c.new-here.ensures.none

pub next_of-requires-clause-numbered : goal.next_of-requires-clause-numbered
next_of-requires-clause-numbered c =
    below_leaves (IsNumbered c.args.book.now) (phrase c.args.rule (in_order (map derivation_of c.args.daughters.now))) c.walk.waiting.items c.walk.here c.walk.invariant.below c.requires.numbered

pub walk-preserved : goal.walk-preserved
walk-preserved c =
    let words = said_by c.args.book.now in
    let whole = phrase c.args.rule (in_order (map derivation_of c.args.daughters.now)) in
    let on = (rw c.in-On.is at c.in_ok-on.ensures) words whole c.walk.invariant c.in_ok-next.ensures in
    on.0

pub walk-smaller : goal.walk-smaller
walk-smaller c =
    let words = said_by c.args.book.now in
    let whole = phrase c.args.rule (in_order (map derivation_of c.args.daughters.now)) in
    let on = (rw c.in-On.is at c.in_ok-on.ensures) words whole c.walk.invariant c.in_ok-next.ensures in
    on.1

pub place_of-requires-clause-waits : goal.place_of-requires-clause-waits
place_of-requires-clause-waits c =
    let whole = phrase c.args.rule (in_order (map derivation_of c.args.daughters.now)) in
    let fails = (rw c.in-Fails.is at c.in_ok-on.ensures) (said_by c.args.book.now) whole c.walk.invariant c.in_ok-next.ensures in
    subst (All (λ (o : Opened). o.passed < length o.daughters.now)) (sym c.deref.ensures.value) (waits_low whole c.step.new.waiting.items c.in-Fails.last fails.0.below)

pub place_of-requires-clause-here : goal.place_of-requires-clause-here
place_of-requires-clause-here c =
    let words = said_by c.args.book.now in
    let whole = phrase c.args.rule (in_order (map derivation_of c.args.daughters.now)) in
    let fails = (rw c.in-Fails.is at c.in_ok-on.ensures) words whole c.walk.invariant c.in_ok-next.ensures in
    fails_low words whole c.step.new.waiting.items c.in-Fails.last c.in-Fails.fault fails.0 fails.1

pub returns-in-Fails : goal.returns-in-Fails
returns-in-Fails c =
    let words = said_by c.args.book.now in
    let whole = phrase c.args.rule (in_order (map derivation_of c.args.daughters.now)) in
    let fails = (rw c.in-Fails.is at c.in_ok-on.ensures) words whole c.walk.invariant c.in_ok-next.ensures in
    let place = c.in_ok-place-in-Fails.ensures ∙ ap (λ ws. next_place open_of ws c.in-Fails.last ++ replicate c.in-Fails.fault.depth 1) c.deref.ensures.value in
    walk_fault words whole c.step.new.waiting.items c.in-Fails.last c.in-Fails.fault fails.0 fails.1 c.in_ok-place-in-Fails.place.items c.in-Fails.fault.instance place refl

pub returns-in-Done : goal.returns-in-Done
returns-in-Done c =
    let whole = phrase c.args.rule (in_order (map derivation_of c.args.daughters.now)) in
    (rw c.in-Done.is at c.in_ok-on.ensures) (said_by c.args.book.now) whole c.walk.invariant c.in_ok-next.ensures
