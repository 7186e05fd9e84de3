use Rattle.std.proofs.Common.{slice_index, subst, arith}
use Rattle.std.proofs.lemmas.List.{nil_from_length}
use Rattle.fs_drawing.specs.Inner.Climbing.{IsClimbing}
use Rattle.fs_drawing.proofs.ClimbLemmas.{climbing_ends}
use Rattle.fs_drawing.proofs.bounds.step_on.Goals as goal

pub go_on-requires-clause-climbing : goal.go_on-requires-clause-climbing
go_on-requires-clause-climbing c =
    subst (IsClimbing c.args.nodes.now c.args.limit (slice_index c.args.heights.now.notes)) c.in-Some.ensures.items c.requires.climbing.climbing

pub returns-in-None : goal.returns-in-None
returns-in-None c =
    let over = nil_from_length c.args.heights.now.open_nodes.items (let a = c.in-None.ensures.cases.0 in let ok = c.args.heights.now.open_nodes.ok in omega arith) in
    climbing_ends c.args.nodes.now c.requires.whole c.args.limit (slice_index c.args.heights.now.notes)
    (subst (IsClimbing c.args.nodes.now c.args.limit (slice_index c.args.heights.now.notes)) over c.requires.climbing.climbing)
