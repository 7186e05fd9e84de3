use Rattle.std.proofs.Common.{length, sym, subst}
use Rattle.std.specs.Option.{option_map}
use Rattle.type_hierarchy.specs.Table.{count_of}
use Rattle.fs_graph.specs.GraphMap.{reader_of}
use Rattle.fs_closing.specs.Keeps.{deep_of}
use Rattle.fs_closing.specs.NodeTable.{table_of}
use Rattle.fs_drawing.specs.Drawing.{AnswersWithout, BoundsPaths}
use Rattle.fs_unify.specs.Given.{Decides}
use Rattle.fs_unify.proofs.GivenLemmas.{inside_at, settles_without_by}
use Rattle.fs_unify.proofs.structure.settle_without.Goals as goal

pub draw_left-requires-clause-whole : goal.draw_left-requires-clause-whole
draw_left-requires-clause-whole c =
    (subst (Decides c.args.system.now c.args.nodes.now c.args.tasks.now c.close_bounded.new.nodes) c.if-bounded.true c.in_ok-bounded.ensures).1

pub draw_left-requires-clause-filled : goal.draw_left-requires-clause-filled
draw_left-requires-clause-filled c =
    (subst (Decides c.args.system.now c.args.nodes.now c.args.tasks.now c.close_bounded.new.nodes) c.if-bounded.true c.in_ok-bounded.ensures).4

pub draw_left-requires-clause-bounds : goal.draw_left-requires-clause-bounds
draw_left-requires-clause-bounds c =
    subst (BoundsPaths (table_of c.close_bounded.new.nodes)) (sym c.path_limit-limit.ensures.limit)
    (subst (Decides c.args.system.now c.args.nodes.now c.args.tasks.now c.close_bounded.new.nodes) c.if-bounded.true c.in_ok-bounded.ensures).3

pub returns-then-bounded-clause-answer : goal.returns-then-bounded-clause-answer
returns-then-bounded-clause-answer c =
    let g = c.args.system.now in
    let p = subst (Decides g c.args.nodes.now c.args.tasks.now c.close_bounded.new.nodes) c.if-bounded.true c.in_ok-bounded.ensures in
    settles_without_by g c.args.nodes.now c.args.tasks.now c.close_bounded.new.nodes c.args.off (option_map reader_of c.in_ok-graph.graph) c.requires.order p.0
    (subst (λ l. AnswersWithout (deep_of c.close_bounded.new.nodes) l c.args.off (option_map reader_of c.in_ok-graph.graph)) c.path_limit-limit.ensures.limit c.in_ok-graph.ensures.answers)

pub returns-then-bounded-clause-inside : goal.returns-then-bounded-clause-inside
returns-then-bounded-clause-inside c =
    let g = c.args.system.now in
    let p = subst (Decides g c.args.nodes.now c.args.tasks.now c.close_bounded.new.nodes) c.if-bounded.true c.in_ok-bounded.ensures in
    inside_at c.in_ok-graph.graph c.close_bounded.new.nodes (count_of g.types) (length g.introducers) p.2 c.in_ok-graph.ensures.inside

pub returns-clause-answer : goal.returns-clause-answer
returns-clause-answer c =
    subst (Decides c.args.system.now c.args.nodes.now c.args.tasks.now c.close_bounded.new.nodes) c.if-bounded.false c.in_ok-bounded.ensures
