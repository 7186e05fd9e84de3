use Rattle.std.proofs.Common.{map}
use Rattle.derivation.specs.Trees.{phrase}
use Rattle.derivation.specs.Views.{derivation_of, in_order}
use Rattle.book_signs.specs.Trees.{signs_of}
use Rattle.tree_structures.proofs.Walking.{below_formed}
use Rattle.tree_structures.proofs.Steps.{walking_begin, walking_on}
use Rattle.tree_structures.proofs.fulls.phrase_number.Goals as goal

pub walk-init : goal.walk-init
walk-init c = (c.requires.right, walking_begin c.args.fulls.now c.args.memo.now c.new-waiting.result.items c.new-here.result c.args.rule c.args.daughters.now c.new-waiting.ensures.items c.new-here.ensures.rule c.new-here.ensures.daughters c.new-here.ensures.none)

pub next_of-requires-clause-formed : goal.next_of-requires-clause-formed
next_of-requires-clause-formed c = below_formed (signs_of c.args.fulls.now) (phrase c.args.rule (in_order (map derivation_of c.args.daughters.now))) c.walk.waiting.items c.walk.here c.walk.invariant.1.below c.requires.formed

pub next_of-requires-clause-begun : goal.next_of-requires-clause-begun
next_of-requires-clause-begun c = c.walk.invariant.1.begun

pub walk-preserved : goal.walk-preserved
walk-preserved c =
    let t = c.args.fulls.now in
    let whole = phrase c.args.rule (in_order (map derivation_of c.args.daughters.now)) in
    let on = walking_on t c.walk.memo c.next_of.new.memo c.in_ok-next.ensures.stays whole c.walk.waiting.items c.walk.here c.walk.invariant.1 in
    let walks = (rw c.in-On.is at c.in_ok-on.ensures) t c.next_of.new.memo whole c.laws.ensures.arities c.requires.formed on c.in_ok-next.ensures.follows in
    (c.in_ok-next.ensures.stays.right, walks.0)

pub walk-smaller : goal.walk-smaller
walk-smaller c =
    let t = c.args.fulls.now in
    let whole = phrase c.args.rule (in_order (map derivation_of c.args.daughters.now)) in
    let on = walking_on t c.walk.memo c.next_of.new.memo c.in_ok-next.ensures.stays whole c.walk.waiting.items c.walk.here c.walk.invariant.1 in
    let walks = (rw c.in-On.is at c.in_ok-on.ensures) t c.next_of.new.memo whole c.laws.ensures.arities c.requires.formed on c.in_ok-next.ensures.follows in
    walks.1

pub returns-in-Done-clause-number : goal.returns-in-Done-clause-number
returns-in-Done-clause-number c =
    let t = c.args.fulls.now in
    let whole = phrase c.args.rule (in_order (map derivation_of c.args.daughters.now)) in
    let on = walking_on t c.walk.memo c.next_of.new.memo c.in_ok-next.ensures.stays whole c.walk.waiting.items c.walk.here c.walk.invariant.1 in
    (rw c.in-Done.is at c.in_ok-on.ensures) t c.next_of.new.memo whole c.laws.ensures.arities c.requires.formed on c.in_ok-next.ensures.follows

pub returns-in-Stuck-clause-number : goal.returns-in-Stuck-clause-number
returns-in-Stuck-clause-number c =
    let t = c.args.fulls.now in
    let whole = phrase c.args.rule (in_order (map derivation_of c.args.daughters.now)) in
    let on = walking_on t c.walk.memo c.next_of.new.memo c.in_ok-next.ensures.stays whole c.walk.waiting.items c.walk.here c.walk.invariant.1 in
    (rw c.in-Stuck.is at c.in_ok-on.ensures) t c.next_of.new.memo whole c.laws.ensures.arities c.requires.formed on c.in_ok-next.ensures.follows
