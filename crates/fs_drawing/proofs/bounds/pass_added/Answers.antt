use Rattle.std.proofs.Common.{◌≡◌, ◌+◌, ◌-◌, ◌⊎◌, inl, inr, ◌++◌, drop, slice_index, slice_index_or, ◌∙◌, ap, subst, arith, refl}
use Rattle.fs_closing.specs.Cells.{no_cell}
use Rattle.fs_closing.specs.NodeTable.{own_row, table_of}
use Rattle.fs_closing.proofs.ChainLemmas.{chain_at}
use Rattle.fs_drawing.specs.Inner.Climbing.{IsPassing}
use Rattle.fs_drawing.proofs.ClimbArcs.{passes, next_is}
use Rattle.fs_drawing.proofs.LeafLemmas.{leaves_none, leaves_more, leaves_passing}
use Rattle.fs_drawing.proofs.bounds.pass_added.Goals as goal

pub live-to-requires-clause-node : goal.live-to-requires-clause-node
live-to-requires-clause-node c =
    let cells = c.args.nodes.now.cells in
    let is : c.at-cell.result ≡ slice_index_or c.args.nodes.now.cells (c.loop-place.place - 1) no_cell = c.at-cell.ensures in
    let at = chain_at cells c.loop-place.place c.at-cell.result c.loop-place-test.true c.loop-place.invariant.passing.place_in c.requires.whole.stands.places is in
    omega (arith, c.requires.whole.stands.to_in c.at-cell.result at.2)

pub noted_at-requires-clause-room : goal.noted_at-requires-clause-room
noted_at-requires-clause-room c = let s = c.loop-place.invariant.leaves.size in omega (arith, c.requires.room, s)

pub loop-place-init : goal.loop-place-init
loop-place-init c = record { passing = c.requires.passing; leaves = leaves_none c.args.nodes.now c.args.notes.now }

pub returns-then-noted-le-OPEN-clause-waits : goal.returns-then-noted-le-OPEN-clause-waits
returns-then-noted-le-OPEN-clause-waits c =
    let passing = leaves_passing c.args.nodes.now c.loop-place.notes c.noted_at.new.notes c.in_ok-noted.ensures.leaves (record { node = c.args.x.node; place = c.loop-place.place; own = c.args.x.own; high = c.loop-place.high }) c.loop-place.invariant.passing in
    let nodes = c.args.nodes.now in
    let cells = nodes.cells in
    let is : c.at-cell.result ≡ slice_index_or c.args.nodes.now.cells (c.loop-place.place - 1) no_cell = c.at-cell.ensures in
    let at = chain_at cells c.loop-place.place c.at-cell.result c.loop-place-test.true c.loop-place.invariant.passing.place_in c.requires.whole.stands.places is in (
      passing,
      next_is nodes c.requires.whole (slice_index c.noted_at.new.notes) c.args.x.node c.loop-place.place c.args.x.own c.loop-place.high c.live-to.result c.at-cell.result _
          passing (ap (λ l. l ++ drop c.args.x.own (own_row nodes c.args.x.node)) at.0) c.live-to.ensures.value c.live-to.ensures.within
          (omega (arith, c.in_ok-noted.ensures.value, c.if-noted-le-OPEN.true)),
    )

pub loop-place-preserved : goal.loop-place-preserved
loop-place-preserved c =
    let passing = leaves_passing c.args.nodes.now c.loop-place.notes c.noted_at.new.notes c.in_ok-noted.ensures.leaves (record { node = c.args.x.node; place = c.loop-place.place; own = c.args.x.own; high = c.loop-place.high }) c.loop-place.invariant.passing in
    let nodes = c.args.nodes.now in
    let cells = nodes.cells in
    let is : c.at-cell.result ≡ slice_index_or c.args.nodes.now.cells (c.loop-place.place - 1) no_cell = c.at-cell.ensures in
    let at = chain_at cells c.loop-place.place c.at-cell.result c.loop-place-test.true c.loop-place.invariant.passing.place_in c.requires.whole.stands.places is in
    let noted = slice_index c.noted_at.new.notes in
    let v : c.in_ok-noted.noted ≡ slice_index c.noted_at.new.notes ((table_of c.args.nodes.now).live c.at-cell.result.to) = c.in_ok-noted.ensures.value ∙ ap noted c.live-to.ensures.value in
    let first = c.greater-high.ensures.first in
    let second = c.greater-high.ensures.second in
    let more = c.if-noted-le-OPEN.false in
    let which : (c.greater-high.result ≡ c.loop-place.high) ⊎ (slice_index c.noted_at.new.notes ((table_of c.args.nodes.now).live c.at-cell.result.to) ≡ c.greater-high.result + 1) =
    elim c.greater-high.ensures.one [ inl e ↦ inl e | inr e ↦ inr (omega (arith, v, e, more)) ] in
    record {
      passing =
          passes nodes c.requires.whole noted c.args.x.node c.loop-place.place c.args.x.own c.loop-place.high c.at-cell.result.next c.args.x.own c.greater-high.result c.at-cell.result
          passing (ap (λ l. l ++ drop c.args.x.own (own_row nodes c.args.x.node)) at.0) (omega (arith, at.1, c.loop-place.invariant.passing.place_in))
          (omega (arith, v, more)) first (omega (arith, v, second, more)) which;
      leaves = leaves_more c.args.nodes.now c.args.notes.now c.loop-place.notes c.noted_at.new.notes c.loop-place.invariant.leaves c.in_ok-noted.ensures.leaves;
    }

pub loop-place-smaller : goal.loop-place-smaller
loop-place-smaller c =
    let cells = c.args.nodes.now.cells in
    let is : c.at-cell.result ≡ slice_index_or c.args.nodes.now.cells (c.loop-place.place - 1) no_cell = c.at-cell.ensures in
    (chain_at cells c.loop-place.place c.at-cell.result c.loop-place-test.true c.loop-place.invariant.passing.place_in c.requires.whole.stands.places is).1

pub returns-clause-waits : goal.returns-clause-waits
returns-clause-waits c =
    let none : c.loop-place.place ≡ 0 = omega (arith, c.loop-place-test.false) in (
      subst (λ p. IsPassing c.args.nodes.now (slice_index c.loop-place.notes) (record { node = c.args.x.node; place = p; own = c.args.x.own; high = c.loop-place.high })) none
          c.loop-place.invariant.passing,
      refl,
    )

pub returns-then-noted-le-OPEN-clause-leaves : goal.returns-then-noted-le-OPEN-clause-leaves
returns-then-noted-le-OPEN-clause-leaves c =
    leaves_more c.args.nodes.now c.args.notes.now c.loop-place.notes c.noted_at.new.notes c.loop-place.invariant.leaves c.in_ok-noted.ensures.leaves

pub returns-clause-leaves : goal.returns-clause-leaves
returns-clause-leaves c = c.loop-place.invariant.leaves
