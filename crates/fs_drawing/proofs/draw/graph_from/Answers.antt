use Rattle.std.proofs.Common.{slice_index}
use Rattle.fs_graph.specs.Inside.{graph_map}
use Rattle.fs_closing.specs.NodeTable.{at_of, own_row}
use Rattle.fs_closing.specs.Keeps.{deep_of}
use Rattle.fs_closing.proofs.MarkLemmas.{root_lives}
use Rattle.fs_drawing.specs.Drawing.{leaves_of}
use Rattle.fs_drawing.proofs.DrawLemmas.{answer_left, filled_plan}
use Rattle.fs_drawing.proofs.InsideLemmas.{graph_inside}
use Rattle.fs_drawing.proofs.draw.graph_from.Goals as goal

pub graph_of-requires-clause-plan : goal.graph_of-requires-clause-plan
graph_of-requires-clause-plan c = rw (c.deref.ensures.value, c.deref-2.ensures.value, c.deref-3.ensures.value) c.requires.picture.plan

pub graph_of-requires-clause-order : goal.graph_of-requires-clause-order
graph_of-requires-clause-order c = rw (c.deref.ensures.value, c.deref-2.ensures.value, c.deref-3.ensures.value) c.requires.picture.order

pub returns-in-Ok-clause-answers : goal.returns-in-Ok-clause-answers
returns-in-Ok-clause-answers c =
    let nodes = c.args.nodes.now in
    let p = c.args.picture.now in
    let root = root_lives (at_of nodes) (own_row nodes) nodes.cells nodes.merges nodes.size c.requires.whole.stands in
    answer_left (deep_of nodes) c.args.limit c.args.off (slice_index p.met.nodes.items) (graph_map p.types.items p.starts.items p.arcs.items) c.in-Ok.graph root
    (filled_plan p.types.items p.starts.items p.arcs.items c.requires.picture.plan) c.requires.bounds c.requires.picture.shows
    (rw (c.deref.ensures.value, c.deref-2.ensures.value, c.deref-3.ensures.value) at c.in-Ok.ensures)

pub returns-in-Ok-clause-inside : goal.returns-in-Ok-clause-inside
returns-in-Ok-clause-inside c = λ types feats within.
    let nodes = c.args.nodes.now in
    let p = c.args.picture.now in
    let ordering = rw (c.deref.ensures.value, c.deref-2.ensures.value, c.deref-3.ensures.value) at c.in-Ok.ensures in
    graph_inside nodes c.requires.whole types feats within (leaves_of c.args.off) (slice_index p.met.nodes.items) (graph_map p.types.items p.starts.items p.arcs.items) c.in-Ok.graph
    c.requires.picture.shows (filled_plan p.types.items p.starts.items p.arcs.items c.requires.picture.plan) ordering.same c.laws.ensures
