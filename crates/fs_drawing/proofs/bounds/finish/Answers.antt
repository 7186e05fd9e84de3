use Rattle.std.proofs.Common.{slice_index, refl, arith}
use Rattle.fs_closing.proofs.HasLemmas.{Has-right}
use Rattle.fs_model.specs.Claims.{here}
use Rattle.fs_drawing.proofs.ClimbLemmas.{clash_long, are_finishing}
use Rattle.fs_drawing.proofs.bounds.finish.Goals as goal

pub returns-then-x-limit : goal.returns-then-x-limit
returns-then-x-limit c =
    clash_long c.args.nodes.now c.requires.whole c.args.limit (slice_index c.args.heights.now.notes) c.args.heights.now.open_nodes.items c.args.x
    c.requires.climbing c.requires.top (omega (arith, c.if-x-limit.true))

pub note-requires : goal.note-requires
note-requires c = omega (arith, c.requires.room, (c.requires.climbing.each c.args.x (Has-right c.args.x c.args.heights.now.open_nodes.items _ here)).node_in)

pub returns : goal.returns
returns c =
    are_finishing c.args.nodes.now c.requires.whole c.args.limit c.args.heights.now _ c.args.x c.requires.room c.requires.climbing c.requires.top
    (omega (arith, c.if-x-limit.false)) c.in_ok-note.ensures refl
