use Rattle.std.proofs.Common.{subst}
use Rattle.std.specs.Option.{option_map}
use Rattle.type_hierarchy.specs.Table.{count_of}
use Rattle.std.specs.Prelude.{length}
use Rattle.fs_graph.specs.GraphMap.{reader_of}
use Rattle.fs_closing.specs.Keeps.{deep_of}
use Rattle.fs_unify.specs.Counting.{ClosedWithin, AnswersWithin}
use Rattle.fs_unify.proofs.GivenLemmas.{closed_filled, inside_at}
use Rattle.fs_unify.proofs.LimitLemmas.{settles_closed, settles_clashed, settles_exceeded}
use Rattle.fs_unify.proofs.limited.settle_few.Goals as goal

pub draw_few-requires-clause-whole : goal.draw_few-requires-clause-whole
draw_few-requires-clause-whole c =
    (subst (ClosedWithin c.args.system.now c.args.limit c.args.nodes.now c.args.tasks.now c.close_few.new.nodes) c.in-Closed.is c.in_ok-close_few.ensures).1

pub draw_few-requires-clause-filled : goal.draw_few-requires-clause-filled
draw_few-requires-clause-filled c =
    closed_filled c.args.system.now c.args.nodes.now c.args.tasks.now c.close_few.new.nodes c.requires.stands
    (subst (ClosedWithin c.args.system.now c.args.limit c.args.nodes.now c.args.tasks.now c.close_few.new.nodes) c.in-Closed.is c.in_ok-close_few.ensures).0

pub returns-in_ok-graph-in-Closed-clause-answer : goal.returns-in_ok-graph-in-Closed-clause-answer
returns-in_ok-graph-in-Closed-clause-answer c =
    settles_closed c.args.system.now c.args.limit c.args.nodes.now c.args.tasks.now c.close_few.new.nodes (option_map reader_of c.in_ok-graph-in-Closed.graph) c.requires.order
    (subst (ClosedWithin c.args.system.now c.args.limit c.args.nodes.now c.args.tasks.now c.close_few.new.nodes) c.in-Closed.is c.in_ok-close_few.ensures)
    (subst (λ l. AnswersWithin (deep_of c.close_few.new.nodes) l c.args.limit (option_map reader_of c.in_ok-graph-in-Closed.graph)) c.path_limit.ensures.limit c.in_ok-graph-in-Closed.ensures.answer)

pub returns-in_ok-graph-in-Closed-clause-inside : goal.returns-in_ok-graph-in-Closed-clause-inside
returns-in_ok-graph-in-Closed-clause-inside c =
    let g = c.args.system.now in
    let closed = subst (ClosedWithin g c.args.limit c.args.nodes.now c.args.tasks.now c.close_few.new.nodes) c.in-Closed.is c.in_ok-close_few.ensures in
    inside_at c.in_ok-graph-in-Closed.graph c.close_few.new.nodes (count_of g.types) (length g.introducers) closed.2 c.in_ok-graph-in-Closed.ensures.inside

pub returns-in-Clashed-clause-answer : goal.returns-in-Clashed-clause-answer
returns-in-Clashed-clause-answer c =
    settles_clashed c.args.system.now c.args.limit c.args.nodes.now c.args.tasks.now c.close_few.new.nodes
    (subst (ClosedWithin c.args.system.now c.args.limit c.args.nodes.now c.args.tasks.now c.close_few.new.nodes) c.in-Clashed.is c.in_ok-close_few.ensures)

pub returns-in-Exceeded-clause-answer : goal.returns-in-Exceeded-clause-answer
returns-in-Exceeded-clause-answer c =
    settles_exceeded c.args.system.now c.args.limit c.args.nodes.now c.args.tasks.now
    (subst (ClosedWithin c.args.system.now c.args.limit c.args.nodes.now c.args.tasks.now c.close_few.new.nodes) c.in-Exceeded.is c.in_ok-close_few.ensures)
