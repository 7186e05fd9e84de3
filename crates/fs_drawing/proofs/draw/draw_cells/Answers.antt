use Rattle.std.proofs.Common.{ℕ, ◌≡◌, ◌-◌, Option, slice_index_or, sym, ◌∙◌, ap, subst, arith}
use Rattle.fs_graph.specs.GraphMap.{arc_to}
use Rattle.fs_closing.specs.Cells.{chain, no_cell, AreOnce}
use Rattle.fs_closing.specs.NodeTable.{table_of, own_row, first_of, row_of}
use Rattle.fs_closing.proofs.ChainLemmas.{chain_at, chain-none}
use Rattle.fs_drawing.proofs.DrawCells.{DrawsCells, draws_rest, once_left, draws_free, draws_step, draws_end}
use Rattle.fs_drawing.proofs.draw.draw_cells.Goals as goal

pub loop-place-init : goal.loop-place-init
loop-place-init c =
    let nodes = c.args.nodes.now in
    let first = c.first_of-place.ensures in
    let once = c.requires.whole.stands.once c.args.n c.requires.node in
    let own = own_row nodes c.args.n in
    record {
      draws = subst (λ p. DrawsCells (table_of nodes).live (row_of nodes c.args.n) (chain nodes.cells p)
          (λ f. arc_to c.args.row.now.items f)) (sym first)
          (draws_rest (table_of nodes).live (chain nodes.cells (first_of nodes c.args.n)) own (λ f. arc_to c.args.row.now.items f) once c.requires.own);
      once = subst (λ p. AreOnce (chain nodes.cells p)) (sym first) (once_left (chain nodes.cells (first_of nodes c.args.n)) own once);
      rises = c.requires.rises;
      to_in = c.requires.to_in;
      place_in = omega (arith, first, c.requires.whole.stands.first_in c.args.n c.requires.node);
    }

pub live-to-requires-clause-node : goal.live-to-requires-clause-node
live-to-requires-clause-node c =
    let cells = c.args.nodes.now.cells in
    let is : c.at-cell.result ≡ slice_index_or c.args.nodes.now.cells (c.loop-place.place - 1) no_cell =
    c.at-cell.ensures in
    let at = chain_at cells c.loop-place.place c.at-cell.result c.loop-place-test.true c.loop-place.invariant.place_in c.requires.whole.stands.places is in
    omega (arith, c.requires.whole.stands.to_in c.at-cell.result at.2)

pub put_arc-requires-clause-new : goal.put_arc-requires-clause-new
put_arc-requires-clause-new c =
    let nodes = c.args.nodes.now in
    let cells = nodes.cells in
    let is : c.at-cell.result ≡ slice_index_or c.args.nodes.now.cells (c.loop-place.place - 1) no_cell =
    c.at-cell.ensures in
    let at = chain_at cells c.loop-place.place c.at-cell.result c.loop-place-test.true c.loop-place.invariant.place_in c.requires.whole.stands.places is in
    draws_free (table_of nodes).live (row_of nodes c.args.n) (chain cells c.loop-place.place)
    (chain cells c.at-cell.result.next) c.at-cell.result (λ f. arc_to c.loop-place.row.items f) at.0 c.loop-place.invariant.draws

pub loop-place-preserved : goal.loop-place-preserved
loop-place-preserved c =
    let nodes = c.args.nodes.now in
    let cells = nodes.cells in
    let is : c.at-cell.result ≡ slice_index_or c.args.nodes.now.cells (c.loop-place.place - 1) no_cell =
    c.at-cell.ensures in
    let at = chain_at cells c.loop-place.place c.at-cell.result c.loop-place-test.true c.loop-place.invariant.place_in c.requires.whole.stands.places is in
    let to = c.live-to.ensures.value in
    let within = c.live-to.ensures.within in
    let ok = c.in_ok-put_arc.ensures in
    record {
      draws = draws_step (table_of nodes).live (row_of nodes c.args.n) (chain cells c.loop-place.place)
          (chain cells c.at-cell.result.next) c.at-cell.result c.live-to.result (λ f. arc_to c.loop-place.row.items f)
          (λ f. arc_to c.put_arc.new.row.items f) at.0 c.loop-place.invariant.once to ok.here ok.others c.loop-place.invariant.draws;
      once = (subst AreOnce at.0 c.loop-place.invariant.once).1;
      rises = ok.rises;
      to_in = ok.to_in nodes.size (within) c.loop-place.invariant.to_in;
      place_in = omega (arith, at.1, c.loop-place.invariant.place_in);
    }

pub loop-place-smaller : goal.loop-place-smaller
loop-place-smaller c =
    let cells = c.args.nodes.now.cells in
    let is : c.at-cell.result ≡ slice_index_or c.args.nodes.now.cells (c.loop-place.place - 1) no_cell =
    c.at-cell.ensures in
    let at = chain_at cells c.loop-place.place c.at-cell.result c.loop-place-test.true c.loop-place.invariant.place_in c.requires.whole.stands.places is in
    at.1

pub returns-clause-here : goal.returns-clause-here
returns-clause-here c =
    let nodes = c.args.nodes.now in
    let none : c.loop-place.place ≡ 0 = omega (arith, c.loop-place-test.false) in
    let all = row_of nodes c.args.n in
    let arc : ℕ → Option ℕ = λ f. arc_to c.loop-place.row.items f in
    draws_end (table_of nodes).live all arc (subst (λ l. DrawsCells (table_of nodes).live all l arc)
    (ap (chain nodes.cells) none ∙ chain-none nodes.cells) c.loop-place.invariant.draws)
