use Rattle.std.proofs.Common.{slice_index, sym, ◌∙◌, arith}
use Rattle.fs_drawing.proofs.ClimbLemmas.{clash_open, are_entering}
use Rattle.fs_drawing.proofs.bounds.meet.Goals as goal

pub get-requires : goal.get-requires
get-requires c = omega (arith, c.requires.room, c.requires.next.3)

pub returns-then-get-eq-OPEN : goal.returns-then-get-eq-OPEN
returns-then-get-eq-OPEN c =
    clash_open c.args.nodes.now c.requires.whole c.args.limit (slice_index c.args.heights.now.notes) c.args.heights.now.open_nodes.items c.args.x c.args.to
    c.requires.climbing c.requires.next (sym c.get.ensures ∙ c.if-get-eq-OPEN.true)

pub note-requires : goal.note-requires
note-requires c = omega (arith, c.requires.room, c.requires.next.3)

pub opened-requires-clause-node : goal.opened-requires-clause-node
opened-requires-clause-node c = c.requires.next.3

pub returns : goal.returns
returns c =
    are_entering c.args.nodes.now c.requires.whole c.args.limit c.args.heights.now _ c.args.x c.opened.result c.args.to _ c.requires.room c.requires.climbing c.requires.next
    (λ e. c.if-get-eq-OPEN.false (c.get.ensures ∙ e)) c.in_ok-note.ensures c.opened.ensures.node c.opened.ensures.passing c.in_ok-push.ensures.items c.in_ok-push-2.ensures.items
