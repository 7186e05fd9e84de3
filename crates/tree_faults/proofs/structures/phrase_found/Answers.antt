use Rattle.std.proofs.Common.{map, ap, ◌∙◌, ◌++◌, replicate, subst, sym}
use Rattle.derivation.specs.Trees.{phrase}
use Rattle.derivation.specs.Views.{derivation_of, in_order}
use Rattle.book_signs.specs.Trees.{signs_of}
use Rattle.tree_faults.specs.Inner.Building.{place_below}
use Rattle.tree_faults.specs.Inner.Structures.{LacksAt}
use Rattle.tree_faults.proofs.BuildingWalk.{walking_begin, below_formed}
use Rattle.tree_faults.proofs.Telling.{fault_of}
use Rattle.tree_faults.proofs.structures.phrase_found.Goals as goal

pub walk-init : goal.walk-init
walk-init c = walking_begin c.args.signs.now c.new-waiting.result.items c.new-here.result c.args.rule c.args.daughters.now c.new-waiting.ensures.items c.new-here.ensures.rule c.new-here.ensures.daughters c.new-here.ensures.parts c.new-here.ensures.none c.new-here.ensures.nothing

pub next_of-requires-clause-formed : goal.next_of-requires-clause-formed
next_of-requires-clause-formed c = below_formed (signs_of c.args.signs.now) (phrase c.args.rule (in_order (map derivation_of c.args.daughters.now))) c.walk.waiting.items c.walk.here c.walk.invariant.below c.requires.formed

pub next_of-requires-clause-begun : goal.next_of-requires-clause-begun
next_of-requires-clause-begun c = c.walk.invariant.begun

pub walk-preserved : goal.walk-preserved
walk-preserved c =
    let whole = phrase c.args.rule (in_order (map derivation_of c.args.daughters.now)) in
    let on = (rw c.in-On.is at c.in_ok-on.ensures) c.args.signs.now whole c.laws.ensures.arities c.requires.formed c.walk.invariant c.in_ok-next.ensures in
    on.0

pub walk-smaller : goal.walk-smaller
walk-smaller c =
    let whole = phrase c.args.rule (in_order (map derivation_of c.args.daughters.now)) in
    let on = (rw c.in-On.is at c.in_ok-on.ensures) c.args.signs.now whole c.laws.ensures.arities c.requires.formed c.walk.invariant c.in_ok-next.ensures in
    on.1

pub returns-in-Done : goal.returns-in-Done
returns-in-Done c =
    let whole = phrase c.args.rule (in_order (map derivation_of c.args.daughters.now)) in
    (rw c.in-Done.is at c.in_ok-on.ensures) c.args.signs.now whole c.laws.ensures.arities c.requires.formed c.walk.invariant c.in_ok-next.ensures

pub told-requires : goal.told-requires
told-requires c =
    let whole = phrase c.args.rule (in_order (map derivation_of c.args.daughters.now)) in
    let lacks = (rw c.in-Stuck.is at c.in_ok-on.ensures) c.args.signs.now whole c.laws.ensures.arities c.requires.formed c.walk.invariant c.in_ok-next.ensures in
    lacks.refusal.unfit

pub returns-in-Stuck : goal.returns-in-Stuck
returns-in-Stuck c =
    let t = c.args.signs.now in
    let whole = phrase c.args.rule (in_order (map derivation_of c.args.daughters.now)) in
    let lack = c.in-Stuck.lack in
    let lacks = (rw c.in-Stuck.is at c.in_ok-on.ensures) t whole c.laws.ensures.arities c.requires.formed c.walk.invariant c.in_ok-next.ensures in
    let place = c.in_ok-place-in-Stuck.ensures ∙ ap (λ ws. place_below ws ++ replicate lack.depth 1) c.deref.ensures.value in
    fault_of t whole c.in_ok-place-in-Stuck.place.items lack c.told.result (subst (λ p. LacksAt t whole p lack) (sym place) lacks) c.told.ensures
