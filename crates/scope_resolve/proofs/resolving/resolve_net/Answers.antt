use Rattle.scope_resolve.specs.Inner.Nets.{frame_in}
use Rattle.scope_resolve.proofs.Resolves.{more_of, all_here, no_readings}
use Rattle.scope_resolve.proofs.resolving.resolve_net.Goals as goal

pub returns-then-not-has_room : goal.returns-then-not-has_room
returns-then-not-has_room c = no_readings (frame_in c.args.net.now.parts) c.args.max _ c.new-out.ensures.items (c.has_room.ensures c.if-not-has_room.true)

pub returns-then-not-done : goal.returns-then-not-done
returns-then-not-done c = more_of (frame_in c.args.net.now.parts) c.args.max _ _ _ _ c.new-out.ensures.items c.in_ok-done.ensures c.sort.ensures.permutation c.in_ok-sort.ensures.sorted c.if-not-done.true

pub returns : goal.returns
returns c = all_here (frame_in c.args.net.now.parts) c.args.max _ _ _ _ c.new-out.ensures.items c.in_ok-done.ensures c.sort.ensures.permutation c.in_ok-sort.ensures.sorted c.if-not-done.false
