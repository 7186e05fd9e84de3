use Rattle.std.proofs.Common.{subst}
use Rattle.fs_closing.specs.Keeps.{Closed}
use Rattle.fs_unify.proofs.GivenLemmas.{closed_filled, decides_closed, decides_clash}
use Rattle.fs_unify.proofs.structure.close_bounded.Goals as goal

pub bounded-requires-clause-whole : goal.bounded-requires-clause-whole
bounded-requires-clause-whole c =
    (subst (Closed c.args.system.now c.args.nodes.now c.args.tasks.now c.close.new.nodes) c.if-closed.true c.in_ok-closed.ensures).1

pub bounded-requires-clause-filled : goal.bounded-requires-clause-filled
bounded-requires-clause-filled c =
    let p = subst (Closed c.args.system.now c.args.nodes.now c.args.tasks.now c.close.new.nodes) c.if-closed.true c.in_ok-closed.ensures in
    closed_filled c.args.system.now c.args.nodes.now c.args.tasks.now c.close.new.nodes c.requires.stands p.0

pub returns-then-closed : goal.returns-then-closed
returns-then-closed c =
    let p = subst (Closed c.args.system.now c.args.nodes.now c.args.tasks.now c.close.new.nodes) c.if-closed.true c.in_ok-closed.ensures in
    decides_closed c.args.system.now c.args.nodes.now c.args.tasks.now c.close.new.nodes c.path_limit-limit.result c.in_ok-within.within c.requires.order c.path_limit-limit.ensures.limit
    p.0 p.1 p.2 (closed_filled c.args.system.now c.args.nodes.now c.args.tasks.now c.close.new.nodes c.requires.stands p.0) c.in_ok-within.ensures

pub returns : goal.returns
returns c =
    decides_clash c.args.system.now c.args.nodes.now c.args.tasks.now c.close.new.nodes
    (subst (Closed c.args.system.now c.args.nodes.now c.args.tasks.now c.close.new.nodes) c.if-closed.false c.in_ok-closed.ensures)
