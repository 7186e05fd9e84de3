use Rattle.std.proofs.Common.{length, subst}
use Rattle.std.specs.Option.{option_map}
use Rattle.type_hierarchy.specs.Table.{count_of}
use Rattle.fs_graph.specs.GraphMap.{reader_of}
use Rattle.fs_closing.specs.Keeps.{deep_of, Closed}
use Rattle.fs_drawing.specs.Drawing.{Answers}
use Rattle.fs_unify.proofs.GivenLemmas.{closed_filled, decides_clash, inside_at, settles_by}
use Rattle.fs_unify.proofs.structure.settle.Goals as goal

pub draw_whole-requires-clause-whole : goal.draw_whole-requires-clause-whole
draw_whole-requires-clause-whole c =
    (subst (Closed c.args.system.now c.args.nodes.now c.args.tasks.now c.close.new.nodes) c.if-closed.true c.in_ok-closed.ensures).1

pub draw_whole-requires-clause-filled : goal.draw_whole-requires-clause-filled
draw_whole-requires-clause-filled c =
    let p = subst (Closed c.args.system.now c.args.nodes.now c.args.tasks.now c.close.new.nodes) c.if-closed.true c.in_ok-closed.ensures in
    closed_filled c.args.system.now c.args.nodes.now c.args.tasks.now c.close.new.nodes c.requires.stands p.0

pub returns-then-closed-clause-answer : goal.returns-then-closed-clause-answer
returns-then-closed-clause-answer c =
    let g = c.args.system.now in
    let p = subst (Closed g c.args.nodes.now c.args.tasks.now c.close.new.nodes) c.if-closed.true c.in_ok-closed.ensures in
    settles_by g c.args.nodes.now c.args.tasks.now c.close.new.nodes (option_map reader_of c.in_ok-graph.graph) c.requires.order p.0
    (subst (λ l. Answers (deep_of c.close.new.nodes) l (option_map reader_of c.in_ok-graph.graph)) c.path_limit-limit.ensures.limit c.in_ok-graph.ensures.answers)

pub returns-then-closed-clause-inside : goal.returns-then-closed-clause-inside
returns-then-closed-clause-inside c =
    let g = c.args.system.now in
    let p = subst (Closed g c.args.nodes.now c.args.tasks.now c.close.new.nodes) c.if-closed.true c.in_ok-closed.ensures in
    inside_at c.in_ok-graph.graph c.close.new.nodes (count_of g.types) (length g.introducers) p.2 c.in_ok-graph.ensures.inside

pub returns-clause-answer : goal.returns-clause-answer
returns-clause-answer c =
    decides_clash c.args.system.now c.args.nodes.now c.args.tasks.now c.close.new.nodes
    (subst (Closed c.args.system.now c.args.nodes.now c.args.tasks.now c.close.new.nodes) c.if-closed.false c.in_ok-closed.ensures)
