use Rattle.std.proofs.Common.{Some, subst}
use Rattle.fs_graph.specs.GraphMap.{reader_of}
use Rattle.fs_closing.specs.Keeps.{deep_of}
use Rattle.fs_closing.specs.NodeTable.{at_of, own_row, own_type, table_of}
use Rattle.fs_closing.proofs.MarkLemmas.{table_whole}
use Rattle.fs_drawing.specs.Drawing.{Shows}
use Rattle.fs_drawing.proofs.DrawLemmas.{answers_whole, picture_bounds_in}
use Rattle.fs_drawing.proofs.draw.draw_whole.Goals as goal

pub graph_from-requires-clause-bounds : goal.graph_from-requires-clause-bounds
graph_from-requires-clause-bounds c =
    let nodes = c.args.nodes.now in
    picture_bounds_in (table_of nodes) (table_whole (at_of nodes) (own_type nodes) (own_row nodes) nodes.cells nodes.merges nodes.size c.requires.whole.stands)
    c.args.limit c.none-all.result c.draw.new.picture c.none-all.ensures.at_root c.none-all.ensures.anywhere
    (subst (Shows c.args.nodes.now c.args.limit c.none-all.result c.draw.new.picture) c.if-drawn.true c.in_ok-drawn.ensures)

pub graph_from-requires-clause-picture : goal.graph_from-requires-clause-picture
graph_from-requires-clause-picture c =
    subst (Shows c.args.nodes.now c.args.limit c.none-all.result c.draw.new.picture) c.if-drawn.true c.in_ok-drawn.ensures

pub returns-then-drawn-clause-answers : goal.returns-then-drawn-clause-answers
returns-then-drawn-clause-answers c =
    answers_whole (deep_of c.args.nodes.now) c.args.limit c.none-all.result (Some (reader_of c.in_ok-graph.graph)) c.none-all.ensures.at_root c.none-all.ensures.anywhere
    c.in_ok-graph.ensures.answers

pub returns-clause-answers : goal.returns-clause-answers
returns-clause-answers c = subst (Shows c.args.nodes.now c.args.limit c.none-all.result c.draw.new.picture) c.if-drawn.false c.in_ok-drawn.ensures
