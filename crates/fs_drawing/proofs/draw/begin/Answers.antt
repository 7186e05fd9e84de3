use Rattle.std.proofs.Common.{[], ◌∷◌, ◌++◌, ◌∙◌, ap, arith}
use Rattle.fs_closing.specs.NodeTable.{at_of, own_row, table_of}
use Rattle.fs_closing.proofs.MarkLemmas.{root_lives}
use Rattle.fs_drawing.proofs.PictureLemmas.{numbered_none, draws_begin}
use Rattle.fs_drawing.proofs.draw.begin.Goals as goal

pub place_in-requires-clause-node : goal.place_in-requires-clause-node
place_in-requires-clause-node c = omega (arith, c.requires.filled, c.in_ok-widen.ensures.room)

pub place_in-requires-clause-numbered : goal.place_in-requires-clause-numbered
place_in-requires-clause-numbered c = numbered_none _ _ c.clear-4.ensures.items (λ n. c.in_ok-widen.ensures.kept n ∙ c.clear-5.ensures.none n)

pub returns : goal.returns
returns c = λ left.
    let nodes = c.args.nodes.now in
    draws_begin (table_of nodes) left _ _ _ (root_lives (at_of nodes) (own_row nodes) nodes.cells nodes.merges nodes.size c.requires.whole.stands) c.requires.filled c.clear-4.ensures.items
    (omega (arith, c.in_ok-widen.ensures.room, c.in_ok-place_in.ensures.room)) c.in_ok-place_in.ensures.numbered c.in_ok-place_in.ensures.meets c.in_ok-place_in.ensures.place
    c.clear.ensures.items (c.in_ok-push.ensures.items ∙ ap (λ l. l ++ 0 ∷ []) c.clear-2.ensures.items) c.clear-3.ensures.items
