use Rattle.std.proofs.Common.{sym, subst, arith}
use Rattle.std.proofs.lemmas.List.{get_or_read}
use Rattle.fs_model.specs.Claims.{Has}
use Rattle.fs_closing.specs.NodeTable.{at_of, own_row, own_type, table_of}
use Rattle.fs_closing.proofs.HasLemmas.{Has-at}
use Rattle.fs_closing.proofs.MarkLemmas.{table_whole}
use Rattle.fs_graph.specs.Visits.{targets_of}
use Rattle.fs_drawing.specs.Drawing.{leaves_of, DrawsRow}
use Rattle.fs_drawing.proofs.MetLemmas.{row_lives}
use Rattle.fs_drawing.proofs.PictureLemmas.{draws_next}
use Rattle.fs_drawing.proofs.draw.draw_node.Goals as goal

pub draw_arcs-requires-clause-node : goal.draw_arcs-requires-clause-node
draw_arcs-requires-clause-node c =
    let met = c.args.picture.now.met.nodes.items in
    let n_is = get_or_read met c.args.k c.index-n.result.now c.requires.place c.index-n.ensures 0 in
    (c.requires.drawn.live_nodes c.index-n.result.now (subst (λ z. Has z met) (sym n_is) (Has-at met c.args.k 0 c.requires.place))).0

pub push_left-requires-clause-row : goal.push_left-requires-clause-row
push_left-requires-clause-row c = λ m h.
    let nodes = c.args.nodes.now in
    let ok = table_whole (at_of nodes) (own_type nodes) (own_row nodes) nodes.cells nodes.merges nodes.size c.requires.whole.stands in
    let met = c.args.picture.now.met.nodes.items in
    let n_is = get_or_read met c.args.k c.index-n.result.now c.requires.place c.index-n.ensures 0 in
    let lives = c.requires.drawn.live_nodes c.index-n.result.now (subst (λ z. Has z met) (sym n_is) (Has-at met c.args.k 0 c.requires.place)) in
    let draws : DrawsRow (table_of c.args.nodes.now) c.index-n.result.now c.draw_arcs.new.row.items =
    record { rises = c.in_ok-draw_arcs.ensures.rises; here = λ f e. c.in_ok-draw_arcs.ensures.here f; to_in = c.in_ok-draw_arcs.ensures.to_in } in
    let low = (row_lives (table_of nodes) ok c.index-n.result.now c.draw_arcs.new.row.items lives.1 draws m (subst (λ l. Has m (targets_of l)) c.deref.ensures.value h)).0 in
    let room = c.requires.drawn.room in
    omega (arith, low, room)

pub push_left-requires-clause-numbered : goal.push_left-requires-clause-numbered
push_left-requires-clause-numbered c = c.requires.drawn.numbered

pub ty_of-requires-clause-node : goal.ty_of-requires-clause-node
ty_of-requires-clause-node c =
    let met = c.args.picture.now.met.nodes.items in
    let n_is = get_or_read met c.args.k c.index-n.result.now c.requires.place c.index-n.ensures 0 in
    (c.requires.drawn.live_nodes c.index-n.result.now (subst (λ z. Has z met) (sym n_is) (Has-at met c.args.k 0 c.requires.place))).0

pub returns : goal.returns
returns c =
    let nodes = c.args.nodes.now in
    let ok = table_whole (at_of nodes) (own_type nodes) (own_row nodes) nodes.cells nodes.merges nodes.size c.requires.whole.stands in
    let met = c.args.picture.now.met.nodes.items in
    let n_is = get_or_read met c.args.k c.index-n.result.now c.requires.place c.index-n.ensures 0 in
    let draws : DrawsRow (table_of c.args.nodes.now) c.index-n.result.now c.draw_arcs.new.row.items =
    record { rises = c.in_ok-draw_arcs.ensures.rises; here = λ f e. c.in_ok-draw_arcs.ensures.here f; to_in = c.in_ok-draw_arcs.ensures.to_in } in
    draws_next (table_of nodes) ok (leaves_of c.args.off) c.args.k c.args.picture.now _ c.requires.place c.requires.drawn c.index-n.result.now n_is c.draw_arcs.new.row.items draws
    (rw (sym c.deref.ensures.value) c.in_ok-push_left.ensures.arcs) (rw (sym c.deref.ensures.value) c.in_ok-push_left.ensures.meets) c.in_ok-push_left.ensures.numbered
    c.in_ok-push_left.ensures.room _ c.in_ok-push.ensures.items c.ty_of.ensures _ c.in_ok-push-2.ensures.items c.in_ok-end.ensures
