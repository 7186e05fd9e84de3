use Rattle.std.proofs.Common.{◌∙◌, arith, sym, subst}
use Rattle.std.proofs.lemmas.List.{length-map}
use Rattle.type_hierarchy.specs.Inner.Reach.{lists}
use Rattle.type_hierarchy.specs.Inner.Rows.{Marks}
use Rattle.type_hierarchy.proofs.RowLemmas.{fill_more}
use Rattle.type_hierarchy.proofs.rows.fill.Goals as goal

pub loop-t-init : goal.loop-t-init
loop-t-init c = record {
  rows = c.requires.rows;
  size = c.requires.size;
  filled = record { told = λ a b h k. absurd (omega arith); unset = λ a b h k. c.requires.none b k a };
}

pub loop-t-preserved : goal.loop-t-preserved
loop-t-preserved c = record {
  rows = c.spread.ensures.rows;
  size = c.spread.auto.rows ∙ c.loop-t.invariant.size;
  filled = fill_more (lists c.args.parents.now) (lists c.loop-t.rows) (lists c.spread.new.rows) c.in_ok-marks.marks.items c.loop-t.t c.loop-t.invariant.filled
      (length-map c.loop-t.rows (λ v. v.items) ∙ c.loop-t.invariant.size ∙ sym (length-map c.args.parents.now (λ v. v.items))) (subst (λ m. Marks (lists c.loop-t.rows) (lists c.spread.new.rows) m c.loop-t.t) c.deref.ensures.value c.spread.ensures.marked) c.in_ok-marks.ensures;
}

pub returns : goal.returns
returns c = record {
  rows = c.loop-t.invariant.rows;
  order = λ a b h k. c.loop-t.invariant.filled.told a b (omega (arith, h, length-map c.loop-t.rows (λ v. v.items), c.loop-t.invariant.size)) k;
}
