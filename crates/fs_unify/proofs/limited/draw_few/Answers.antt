use Rattle.std.proofs.Common.{Some, subst}
use Rattle.fs_graph.specs.GraphMap.{reader_of}
use Rattle.fs_closing.specs.Keeps.{deep_of}
use Rattle.fs_closing.specs.NodeTable.{at_of, own_row, own_type, table_of}
use Rattle.fs_closing.proofs.MarkLemmas.{table_whole}
use Rattle.fs_drawing.specs.Drawing.{Shows}
use Rattle.fs_drawing.proofs.DrawLemmas.{answers_whole, picture_bounds_in}
use Rattle.fs_unify.proofs.LimitLemmas.{laid_plan, laid_count, none_drawn, none_counted, some_counted}
use Rattle.fs_unify.proofs.limited.draw_few.Goals as goal

pub returns-then-not-drawn-clause-answer : goal.returns-then-not-drawn-clause-answer
returns-then-not-drawn-clause-answer c =
    none_drawn (deep_of c.args.nodes.now) c.args.longest c.args.limit
    (subst (Shows c.args.nodes.now c.args.longest c.none-all.result c.draw.new.picture) c.if-not-drawn.true c.in_ok-drawn.ensures)

pub few_paths-requires : goal.few_paths-requires
few_paths-requires c =
    let p = subst (Shows c.args.nodes.now c.args.longest c.none-all.result c.draw.new.picture) c.if-not-drawn.false c.in_ok-drawn.ensures in
    record { plan = laid_plan c.draw.new.picture c.deref.result.now c.deref-2.result.now c.deref.ensures.value c.deref-2.ensures.value p.plan }

pub returns-then-not-few-clause-answer : goal.returns-then-not-few-clause-answer
returns-then-not-few-clause-answer c =
    let p = subst (Shows c.args.nodes.now c.args.longest c.none-all.result c.draw.new.picture) c.if-not-drawn.false c.in_ok-drawn.ensures in
    none_counted (deep_of c.args.nodes.now) c.args.longest c.args.limit c.in_ok-few.few c.if-not-few.true
    (laid_count c.args.nodes.now c.requires.whole c.none-all.result c.none-all.ensures.at_root c.none-all.ensures.anywhere c.draw.new.picture c.deref.result.now
    c.deref-2.result.now c.deref.ensures.value c.deref-2.ensures.value p.plan p.shows c.args.limit c.in_ok-few.few c.in_ok-few.ensures)

pub graph_from-requires-clause-bounds : goal.graph_from-requires-clause-bounds
graph_from-requires-clause-bounds c =
    let nodes = c.args.nodes.now in
    picture_bounds_in (table_of nodes) (table_whole (at_of nodes) (own_type nodes) (own_row nodes) nodes.cells nodes.merges nodes.size c.requires.whole.stands)
    c.args.longest c.none-all.result c.draw.new.picture c.none-all.ensures.at_root c.none-all.ensures.anywhere
    (subst (Shows c.args.nodes.now c.args.longest c.none-all.result c.draw.new.picture) c.if-not-drawn.false c.in_ok-drawn.ensures)

pub graph_from-requires-clause-picture : goal.graph_from-requires-clause-picture
graph_from-requires-clause-picture c =
    let p = subst (Shows c.args.nodes.now c.args.longest c.none-all.result c.draw.new.picture) c.if-not-drawn.false c.in_ok-drawn.ensures in
    record { plan = p.plan; shows = p.shows; order = p.order; short = p.short }

pub returns-clause-answer : goal.returns-clause-answer
returns-clause-answer c =
    let p = subst (Shows c.args.nodes.now c.args.longest c.none-all.result c.draw.new.picture) c.if-not-drawn.false c.in_ok-drawn.ensures in
    some_counted (deep_of c.args.nodes.now) c.args.longest c.args.limit (reader_of c.in_ok-graph.graph) c.in_ok-few.few c.if-not-few.false
    (laid_count c.args.nodes.now c.requires.whole c.none-all.result c.none-all.ensures.at_root c.none-all.ensures.anywhere c.draw.new.picture c.deref.result.now
    c.deref-2.result.now c.deref.ensures.value c.deref-2.ensures.value p.plan p.shows c.args.limit c.in_ok-few.few c.in_ok-few.ensures)
    (answers_whole (deep_of c.args.nodes.now) c.args.longest c.none-all.result (Some (reader_of c.in_ok-graph.graph)) c.none-all.ensures.at_root c.none-all.ensures.anywhere
    c.in_ok-graph.ensures.answers)
