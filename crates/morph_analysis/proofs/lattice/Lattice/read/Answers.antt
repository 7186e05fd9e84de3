use Rattle.std.proofs.Common.{◌∙◌, ◌+◌, inr, map, take, refl, sym, ap, subst}
use Rattle.std.specs.Str.{chars}
use Rattle.std.proofs.lemmas.List.{nil_from_length}
use Rattle.morph_analysis.specs.LatticeViews.{step_of, lattice_of}
use Rattle.morph_analysis.specs.Inner.Lines.{item_of, HasRead}
use Rattle.morph_analysis.proofs.LineLemmas.{read_none, read_more, items_of, wrong_here, read_all, line_is, read_valid}
use Rattle.morph_analysis.proofs.lattice.Lattice.read.Goals as goal

pub loop-item-init : goal.loop-item-init
loop-item-init c = read_none (map step_of c.new-steps.result.keys) (ap (map step_of) (nil_from_length c.new-steps.result.keys c.new-steps.ensures.len))

pub returns-in-None-clause-fault : goal.returns-in-None-clause-fault
returns-in-None-clause-fault c =
    let items = items_of item_of c.deref.result.now (chars c.args.line.now) c.deref-item-items.result.now c.in_ok-items.items.items c.in_ok-items.ensures (c.deref.ensures.value ∙ c.in_ok-letters.ensures.letters) c.deref-item-items.ensures.value in
    inr (
      _,
      refl,
      wrong_here item_of (chars c.args.line.now) c.deref-item-items.result.now c.loop-item.item-index _ (map step_of c.loop-item.steps.keys) c.loop-item.end items c.loop-item-test.true c.loop-item.invariant
          (rw c.in-None.is at c.in_ok-step_written.ensures),
    )

pub loop-item-preserved : goal.loop-item-preserved
loop-item-preserved c =
    subst (λ k. HasRead (map item_of (take (c.loop-item.item-index + 1) c.deref-item-items.result.now)) k c.later-end.result) (sym c.in_ok-note-in-Some.ensures)
    (read_more item_of c.deref-item-items.result.now c.loop-item.item-index _ (map step_of c.loop-item.steps.keys) c.loop-item.end c.later-end.result (step_of c.in-Some.step) c.loop-item-test.true c.loop-item.invariant
    (rw c.in-Some.is at c.in_ok-step_written.ensures) c.later-end.ensures.first c.later-end.ensures.second c.later-end.ensures.one)

pub returns-clause-lattice : goal.returns-clause-lattice
returns-clause-lattice c =
    let items = items_of item_of c.deref.result.now (chars c.args.line.now) c.deref-item-items.result.now c.in_ok-items.items.items c.in_ok-items.ensures (c.deref.ensures.value ∙ c.in_ok-letters.ensures.letters) c.deref-item-items.ensures.value in
    line_is (chars c.args.line.now) (map item_of c.deref-item-items.result.now) (lattice_of (record { steps = c.in_ok-steps.steps; end = c.loop-item.end })) items
    (read_all item_of c.deref-item-items.result.now c.loop-item.item-index (map step_of c.loop-item.steps.keys) (map step_of c.in_ok-steps.steps.items) c.loop-item.end c.loop-item-test.false c.loop-item.invariant (ap (map step_of) c.in_ok-steps.ensures))

pub returns-clause-valid : goal.returns-clause-valid
returns-clause-valid c =
    read_valid (map item_of c.deref-item-items.result.now) (lattice_of (record { steps = c.in_ok-steps.steps; end = c.loop-item.end }))
    (read_all item_of c.deref-item-items.result.now c.loop-item.item-index (map step_of c.loop-item.steps.keys) (map step_of c.in_ok-steps.steps.items) c.loop-item.end c.loop-item-test.false c.loop-item.invariant (ap (map step_of) c.in_ok-steps.ensures))
