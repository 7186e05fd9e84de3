use Rattle.std.proofs.Common.{ℕ, ◌<◌, ◌≤◌, ◌+◌, ◌≡◌, List, ◌++◌, [], ◌∷◌, length, take, slice_index_or, refl, sym, ◌∙◌, ap, subst, arith}
use Rattle.std.proofs.lemmas.List.{append-nil, append_assoc, map-append, take_more, take_all}
use Rattle.fs_model.specs.Claims.{Has}
use Rattle.fs_closing.specs.declared.cells.Cell.{Cell}
use Rattle.fs_graph.specs.declared.graph.GraphArc.{GraphArc}
use Rattle.fs_closing.specs.Cells.{no_cell}
use Rattle.fs_closing.specs.NodeTable.{table_of, own_row}
use Rattle.fs_closing.proofs.BesideLemmas.{row_size}
use Rattle.fs_closing.proofs.HasLemmas.{Has-at}
use Rattle.fs_drawing.specs.Drawing.{ended_row}
use Rattle.fs_drawing.proofs.draw.draw_own.Goals as goal

pub own_cell-cell-requires-clause-small : goal.own_cell-cell-requires-clause-small
own_cell-cell-requires-clause-small c = λ x h.
    omega (arith, c.requires.whole.stands.own_in c.args.n x (subst (Has x) c.own_arcs-own.ensures h), c.requires.whole.stands.small)

pub loop-i-init : goal.loop-i-init
loop-i-init c =
    let none = ap (ended_row (table_of c.args.nodes.now).live) (take_zero (own_row c.args.nodes.now c.args.n)) in
    record { drawn = sym (append-nil c.args.arcs.now.items) ∙ ap (λ l. c.args.arcs.now.items ++ l) (sym none) }
  where
    take_zero : (xs : List Cell) → take 0 xs ≡ []
    take_zero [] = refl
    take_zero (x ∷ xs) = refl

pub live-to-requires-clause-node : goal.live-to-requires-clause-node
live-to-requires-clause-node c =
    let own = own_row c.args.nodes.now c.args.n in
    let i_in : c.loop-i.i < length (own_row c.args.nodes.now c.args.n) =
    omega (arith, c.loop-i-test.true, c.loop-i.auto.i-end, row_size c.own_arcs-own.result.base c.own_arcs-own.result.arcs.now _ c.own_arcs-own.ensures) in
    let is = c.own_cell-cell.ensures no_cell ∙ ap (λ l. slice_index_or l c.loop-i.i no_cell) c.own_arcs-own.ensures in
    let at = subst (λ x. Has x own) (sym is) (Has-at own c.loop-i.i no_cell i_in) in
    omega (arith, c.requires.whole.stands.own_in c.args.n c.own_cell-cell.result at)

pub loop-i-preserved : goal.loop-i-preserved
loop-i-preserved c =
    let own = own_row c.args.nodes.now c.args.n in
    let live = (table_of c.args.nodes.now).live in
    let i_in : c.loop-i.i < length (own_row c.args.nodes.now c.args.n) =
    omega (arith, c.loop-i-test.true, c.loop-i.auto.i-end, row_size c.own_arcs-own.result.base c.own_arcs-own.result.arcs.now _ c.own_arcs-own.ensures) in
    let is = c.own_cell-cell.ensures no_cell ∙ ap (λ l. slice_index_or l c.loop-i.i no_cell) c.own_arcs-own.ensures in
    let cell = c.own_cell-cell.result in
    let ended : Cell → GraphArc = λ x. record { feat = record { 0 = x.feat }; to = record { 0 = live x.to } } in
    let old = c.args.arcs.now.items in
    let before = ended_row live (take c.loop-i.i own) in
    let arc : ℕ → GraphArc = λ k. record { feat = record { 0 = cell.feat }; to = record { 0 = k } } in
    let more : ended_row live (take (c.loop-i.i + 1) own) ≡ before ++ arc (live cell.to) ∷ [] =
    ap (ended_row live) (take_more own c.loop-i.i no_cell i_in ∙ ap (λ x. take c.loop-i.i own ++ x ∷ []) (sym is))
    ∙ map-append ended (take c.loop-i.i own) (cell ∷ []) in
    record {
      drawn = c.in_ok-push.ensures.items ∙ ap (λ k. c.loop-i.arcs.items ++ arc k ∷ []) c.live-to.ensures.value
          ∙ ap (λ l. l ++ arc (live cell.to) ∷ []) c.loop-i.invariant.drawn ∙ append_assoc old before (arc (live cell.to) ∷ []) ∙ ap (λ l. old ++ l) (sym more);
    }

pub returns : goal.returns
returns c =
    let own = own_row c.args.nodes.now c.args.n in
    let past : length (own_row c.args.nodes.now c.args.n) ≤ c.loop-i.i =
    omega (arith, c.loop-i-test.false, c.loop-i.auto.i-end, row_size c.own_arcs-own.result.base c.own_arcs-own.result.arcs.now _ c.own_arcs-own.ensures) in
    c.loop-i.invariant.drawn ∙ ap (λ l. c.args.arcs.now.items ++ ended_row (table_of c.args.nodes.now).live l) (take_all c.loop-i.i own past)
