use Rattle.std.proofs.Common.{slice_index, arith}
use Rattle.fs_drawing.proofs.ClimbArcs.{waits_some, waits_none}
use Rattle.fs_drawing.proofs.bounds.pass.Goals as goal

pub returns-in-Some-clause-waits : goal.returns-in-Some-clause-waits
returns-in-Some-clause-waits c =
    waits_some c.args.nodes.now (slice_index c.pass_added.new.notes) c.in_ok-added.added.open_node c.in_ok-added.added.next _ c.in-Some.is c.in_ok-added.ensures.waits

pub pass_own-requires-clause-room : goal.pass_own-requires-clause-room
pass_own-requires-clause-room c = let s = c.in_ok-added.ensures.leaves.size in omega (arith, c.requires.room, s)

pub pass_own-requires-clause-passing : goal.pass_own-requires-clause-passing
pass_own-requires-clause-passing c =
    (waits_none c.args.nodes.now (slice_index c.pass_added.new.notes) c.in_ok-added.added.open_node c.in_ok-added.added.next c.in-None.is c.in_ok-added.ensures.waits).0

pub pass_own-requires-clause-added : goal.pass_own-requires-clause-added
pass_own-requires-clause-added c =
    (waits_none c.args.nodes.now (slice_index c.pass_added.new.notes) c.in_ok-added.added.open_node c.in_ok-added.added.next c.in-None.is c.in_ok-added.ensures.waits).1
