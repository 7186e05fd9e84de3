use Rattle.std.proofs.Common.{◌∷◌, [], slice_index, subst, arith}
use Rattle.fs_model.specs.Claims.{here}
use Rattle.fs_closing.proofs.HasLemmas.{Has-right}
use Rattle.fs_drawing.specs.Inner.Climbing.{Waits}
use Rattle.fs_drawing.proofs.ClimbLemmas.{refit}
use Rattle.fs_drawing.proofs.LeafLemmas.{leaves_climbing}
use Rattle.fs_drawing.proofs.bounds.go_on.Goals as goal

pub pass-requires-clause-passing : goal.pass-requires-clause-passing
pass-requires-clause-passing c = (c.requires.climbing.each c.args.x (Has-right c.args.x c.args.heights.now.open_nodes.items (c.args.x ∷ []) here)).passing

pub meet-requires-clause-climbing : goal.meet-requires-clause-climbing
meet-requires-clause-climbing c =
    let noted = slice_index c.pass.new.notes in
    let w = subst (Waits c.args.nodes.now (slice_index c.pass.new.notes) c.in_ok-passed.passed.open_node) c.in-Some.is c.in_ok-passed.ensures.waits in
    refit c.args.nodes.now c.requires.whole c.args.limit noted c.args.heights.now.open_nodes.items c.args.x c.in_ok-passed.passed.open_node c.in_ok-passed.ensures.node w.0
    (leaves_climbing c.args.nodes.now c.args.heights.now.notes c.pass.new.notes c.in_ok-passed.ensures.leaves c.args.limit _ c.requires.climbing)

pub meet-requires-clause-next : goal.meet-requires-clause-next
meet-requires-clause-next c =
    (subst (Waits c.args.nodes.now (slice_index c.pass.new.notes) c.in_ok-passed.passed.open_node) c.in-Some.is c.in_ok-passed.ensures.waits).1

pub finish-requires-clause-climbing : goal.finish-requires-clause-climbing
finish-requires-clause-climbing c =
    let noted = slice_index c.pass.new.notes in
    let w = subst (Waits c.args.nodes.now (slice_index c.pass.new.notes) c.in_ok-passed.passed.open_node) c.in-None.is c.in_ok-passed.ensures.waits in
    refit c.args.nodes.now c.requires.whole c.args.limit noted c.args.heights.now.open_nodes.items c.args.x c.in_ok-passed.passed.open_node c.in_ok-passed.ensures.node w.0
    (leaves_climbing c.args.nodes.now c.args.heights.now.notes c.pass.new.notes c.in_ok-passed.ensures.leaves c.args.limit _ c.requires.climbing)

pub finish-requires-clause-top : goal.finish-requires-clause-top
finish-requires-clause-top c =
    (subst (Waits c.args.nodes.now (slice_index c.pass.new.notes) c.in_ok-passed.passed.open_node) c.in-None.is c.in_ok-passed.ensures.waits).1

pub meet-requires-clause-room : goal.meet-requires-clause-room
meet-requires-clause-room c = let s = c.in_ok-passed.ensures.leaves.size in omega (arith, c.requires.room, s)

pub finish-requires-clause-room : goal.finish-requires-clause-room
finish-requires-clause-room c = let s = c.in_ok-passed.ensures.leaves.size in omega (arith, c.requires.room, s)
