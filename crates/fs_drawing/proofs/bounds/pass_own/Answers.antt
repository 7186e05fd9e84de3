use Rattle.std.proofs.Common.{◌≡◌, ◌≤◌, ◌<◌, ◌+◌, ◌⊎◌, inl, inr, length, slice_index, slice_index_or, sym, ◌∙◌, ap, subst, arith}
use Rattle.fs_model.specs.Claims.{Has}
use Rattle.fs_closing.specs.Cells.{no_cell}
use Rattle.fs_closing.specs.NodeTable.{own_row, table_of}
use Rattle.fs_closing.proofs.BesideLemmas.{row_size}
use Rattle.fs_closing.proofs.HasLemmas.{Has-at}
use Rattle.fs_drawing.specs.Inner.Climbing.{IsPassing}
use Rattle.fs_drawing.proofs.ClimbArcs.{passes, passed_all, next_is, own_split, own_end}
use Rattle.fs_drawing.proofs.LeafLemmas.{leaves_none, leaves_more, leaves_passing}
use Rattle.fs_drawing.proofs.bounds.pass_own.Goals as goal

pub loop-i-init : goal.loop-i-init
loop-i-init c = record {
  passing =
      subst (λ p. IsPassing c.args.nodes.now (slice_index c.args.notes.now) (record { node = c.args.x.node; place = p; own = c.args.x.own; high = c.args.x.high })) c.requires.added
      c.requires.passing;
  leaves = leaves_none c.args.nodes.now c.args.notes.now;
}

pub own_cell-cell-requires-clause-small : goal.own_cell-cell-requires-clause-small
own_cell-cell-requires-clause-small c = λ x h.
    omega (arith, c.requires.whole.stands.own_in c.args.x.node x (subst (Has x) c.own_arcs-own.ensures h), c.requires.whole.stands.small)

pub live-to-requires-clause-node : goal.live-to-requires-clause-node
live-to-requires-clause-node c =
    let own = own_row c.args.nodes.now c.args.x.node in
    let i_in : c.loop-i.i < length (own_row c.args.nodes.now c.args.x.node) =
    omega (arith, c.loop-i-test.true, c.loop-i.auto.i-end, row_size c.own_arcs-own.result.base c.own_arcs-own.result.arcs.now _ c.own_arcs-own.ensures) in
    let is = c.own_cell-cell.ensures no_cell ∙ ap (λ l. slice_index_or l c.loop-i.i no_cell) c.own_arcs-own.ensures in
    let at = subst (λ x. Has x own) (sym is) (Has-at own c.loop-i.i no_cell i_in) in
    omega (arith, c.requires.whole.stands.own_in c.args.x.node c.own_cell-cell.result at)

pub noted_at-requires-clause-room : goal.noted_at-requires-clause-room
noted_at-requires-clause-room c = let s = c.loop-i.invariant.leaves.size in omega (arith, c.requires.room, s)

pub returns-then-noted-le-OPEN-clause-waits : goal.returns-then-noted-le-OPEN-clause-waits
returns-then-noted-le-OPEN-clause-waits c =
    let passing = leaves_passing c.args.nodes.now c.loop-i.notes c.noted_at.new.notes c.in_ok-noted.ensures.leaves (record { node = c.args.x.node; place = 0; own = c.loop-i.i; high = c.loop-i.high }) c.loop-i.invariant.passing in
    let nodes = c.args.nodes.now in
    let own = own_row c.args.nodes.now c.args.x.node in
    let i_in : c.loop-i.i < length (own_row c.args.nodes.now c.args.x.node) =
    omega (arith, c.loop-i-test.true, c.loop-i.auto.i-end, row_size c.own_arcs-own.result.base c.own_arcs-own.result.arcs.now _ c.own_arcs-own.ensures) in
    let is = c.own_cell-cell.ensures no_cell ∙ ap (λ l. slice_index_or l c.loop-i.i no_cell) c.own_arcs-own.ensures in (
      passing,
      next_is nodes c.requires.whole (slice_index c.noted_at.new.notes) c.args.x.node 0 c.loop-i.i c.loop-i.high c.live-to.result c.own_cell-cell.result _
          passing (own_split nodes.cells own c.loop-i.i c.own_cell-cell.result i_in is) c.live-to.ensures.value c.live-to.ensures.within
          (omega (arith, c.in_ok-noted.ensures.value, c.if-noted-le-OPEN.true)),
    )

pub loop-i-preserved : goal.loop-i-preserved
loop-i-preserved c =
    let passing = leaves_passing c.args.nodes.now c.loop-i.notes c.noted_at.new.notes c.in_ok-noted.ensures.leaves (record { node = c.args.x.node; place = 0; own = c.loop-i.i; high = c.loop-i.high }) c.loop-i.invariant.passing in
    let nodes = c.args.nodes.now in
    let own = own_row c.args.nodes.now c.args.x.node in
    let i_in : c.loop-i.i < length (own_row c.args.nodes.now c.args.x.node) =
    omega (arith, c.loop-i-test.true, c.loop-i.auto.i-end, row_size c.own_arcs-own.result.base c.own_arcs-own.result.arcs.now _ c.own_arcs-own.ensures) in
    let is = c.own_cell-cell.ensures no_cell ∙ ap (λ l. slice_index_or l c.loop-i.i no_cell) c.own_arcs-own.ensures in
    let noted = slice_index c.noted_at.new.notes in
    let v : c.in_ok-noted.noted ≡ slice_index c.noted_at.new.notes ((table_of c.args.nodes.now).live c.own_cell-cell.result.to) = c.in_ok-noted.ensures.value ∙ ap noted c.live-to.ensures.value in
    let first = c.greater-high.ensures.first in
    let second = c.greater-high.ensures.second in
    let more = c.if-noted-le-OPEN.false in
    let which : (c.greater-high.result ≡ c.loop-i.high) ⊎ (slice_index c.noted_at.new.notes ((table_of c.args.nodes.now).live c.own_cell-cell.result.to) ≡ c.greater-high.result + 1) =
    elim c.greater-high.ensures.one [ inl e ↦ inl e | inr e ↦ inr (omega (arith, v, e, more)) ] in
    record {
      passing =
          passes nodes c.requires.whole noted c.args.x.node 0 c.loop-i.i c.loop-i.high 0 (c.loop-i.i + 1) c.greater-high.result c.own_cell-cell.result
          passing (own_split nodes.cells own c.loop-i.i c.own_cell-cell.result i_in is) (omega arith)
          (omega (arith, v, more)) first (omega (arith, v, second, more)) which;
      leaves = leaves_more c.args.nodes.now c.args.notes.now c.loop-i.notes c.noted_at.new.notes c.loop-i.invariant.leaves c.in_ok-noted.ensures.leaves;
    }

pub returns-clause-waits : goal.returns-clause-waits
returns-clause-waits c =
    let nodes = c.args.nodes.now in
    let own = own_row c.args.nodes.now c.args.x.node in
    let size = row_size c.own_arcs-own.result.base c.own_arcs-own.result.arcs.now _ c.own_arcs-own.ensures in
    let past : length (own_row c.args.nodes.now c.args.x.node) ≤ c.loop-i.i = omega (arith, c.loop-i-test.false, c.loop-i.auto.i-end, size) in
    passed_all nodes c.requires.whole (slice_index c.loop-i.notes) c.args.x.node 0 c.loop-i.i c.loop-i.high 0 _ c.loop-i.invariant.passing
    (own_end nodes.cells own c.loop-i.i past) (own_end nodes.cells own _ (omega (arith, size))) (omega arith)

pub returns-then-noted-le-OPEN-clause-leaves : goal.returns-then-noted-le-OPEN-clause-leaves
returns-then-noted-le-OPEN-clause-leaves c =
    leaves_more c.args.nodes.now c.args.notes.now c.loop-i.notes c.noted_at.new.notes c.loop-i.invariant.leaves c.in_ok-noted.ensures.leaves

pub returns-clause-leaves : goal.returns-clause-leaves
returns-clause-leaves c = c.loop-i.invariant.leaves
