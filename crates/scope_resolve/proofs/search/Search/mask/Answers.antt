use Rattle.scope_resolve.specs.Inner.Nets.{frame_in}
use Rattle.scope_resolve.specs.Inner.Filling.{state_of}
use Rattle.scope_resolve.proofs.search.Search.mask.Goals as goal

pub returns-then-not-branch-clause-dead : goal.returns-then-not-branch-clause-dead
returns-then-not-branch-clause-dead c = λ y. c.in_ok-pick.ensures.torn c.if-not-branch.true (frame_in c.args.net.now.parts) (state_of c.args.trail.now) c.requires.seen c.requires.plan

pub returns-then-is_stuck-clause-dead : goal.returns-then-is_stuck-clause-dead
returns-then-is_stuck-clause-dead c = λ y.
    let f = frame_in c.args.net.now.parts in
    c.is_stuck.ensures c.if-is_stuck.true (state_of c.args.trail.now) c.requires.seen (c.mask.ensures f c.requires.seen c.requires.plan (c.in_ok-pick.ensures.live f c.requires.plan))

pub returns-clause-seats : goal.returns-clause-seats
returns-clause-seats c = λ y.
    let f = frame_in c.args.net.now.parts in
    let live = c.in_ok-pick.ensures.live f c.requires.plan in
    c.seat.ensures f (state_of c.args.trail.now) c.requires.seen live (c.mask.ensures f c.requires.seen c.requires.plan live)
