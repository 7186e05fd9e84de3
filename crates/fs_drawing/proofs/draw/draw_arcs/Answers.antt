use Rattle.std.proofs.Common.{ℕ, ◌<◌, List, ◌++◌, length, slice_index, sym, ◌∙◌, ap, subst}
use Rattle.fs_graph.specs.declared.graph.GraphArc.{GraphArc}
use Rattle.fs_graph.specs.GraphMap.{arc_to, Rises}
use Rattle.fs_graph.specs.Visits.{targets_of}
use Rattle.fs_closing.specs.NodeTable.{table_of, own_row}
use Rattle.fs_drawing.specs.Drawing.{ended_row}
use Rattle.fs_drawing.proofs.DrawOwn.{ended_here, own_drawn}
use Rattle.fs_drawing.proofs.draw.draw_arcs.Goals as goal

pub draw_cells-requires-clause-rises : goal.draw_cells-requires-clause-rises
draw_cells-requires-clause-rises c =
    let nodes = c.args.nodes.now in
    let row = ended_row (table_of nodes).live (own_row nodes c.args.n) in
    let is = c.in_ok-draw_own.ensures ∙ ap (λ l. l ++ row) c.requires.empty in
    subst Rises (sym is) (own_drawn nodes c.requires.whole c.args.n).0

pub draw_cells-requires-clause-own : goal.draw_cells-requires-clause-own
draw_cells-requires-clause-own c = λ f.
    let nodes = c.args.nodes.now in
    let row = ended_row (table_of nodes).live (own_row nodes c.args.n) in
    let is = c.in_ok-draw_own.ensures ∙ ap (λ l. l ++ row) c.requires.empty in
    ap (λ l. arc_to l f) is ∙ ended_here (table_of nodes).live (own_row nodes c.args.n) f

pub draw_cells-requires-clause-to_in : goal.draw_cells-requires-clause-to_in
draw_cells-requires-clause-to_in c =
    let nodes = c.args.nodes.now in
    let row = ended_row (table_of nodes).live (own_row nodes c.args.n) in
    let is = c.in_ok-draw_own.ensures ∙ ap (λ l. l ++ row) c.requires.empty in
    subst (λ (l : List GraphArc). (k : ℕ) → k < length l → slice_index (targets_of l) k < nodes.size) (sym is) (own_drawn nodes c.requires.whole c.args.n).1
