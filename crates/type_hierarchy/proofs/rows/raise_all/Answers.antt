use Rattle.std.proofs.Common.{ℕ, ◌<◌, ◌∙◌, length, Vec, ap, sym, subst, arith}
use Rattle.std.specs.Global.{Global}
use Rattle.std.proofs.lemmas.List.{length-map}
use Rattle.type_hierarchy.specs.Bits.{IsRow}
use Rattle.type_hierarchy.specs.Inner.Reach.{lists}
use Rattle.type_hierarchy.proofs.RowLemmas.{row_is}
use Rattle.type_hierarchy.proofs.RaiseLemmas.{held_more}
use Rattle.type_hierarchy.proofs.rows.raise_all.Goals as goal

pub raise-requires-clause-row : goal.raise-requires-clause-row
raise-requires-clause-row c =
    let within : c.in-Some.t < length c.loop-t.rows = omega (arith, c.if-t-parents.true, c.loop-t.invariant.size) in
    let row = c.deref-then-t-parents-2.ensures.value ∙ c.in_ok-row.ensures.items ∙ c.deref.ensures.value in
    subst (IsRow (length c.loop-t.rows)) (sym row) (c.loop-t.invariant.rows_are c.in-Some.t c.index-rows-t.result within)

pub loop-t-preserved-then-t-parents : goal.loop-t-preserved-then-t-parents
loop-t-preserved-then-t-parents c =
    let within : c.in-Some.t < length c.loop-t.rows = omega (arith, c.if-t-parents.true, c.loop-t.invariant.size) in
    let row = c.deref-then-t-parents-2.ensures.value ∙ c.in_ok-row.ensures.items ∙ c.deref.ensures.value ∙ ap (λ (v : Vec ℕ Global). v.items) (sym c.index-rows-t.is) ∙ sym (row_is c.loop-t.rows c.in-Some.t c.index-rows-t.result within c.index-rows-t.is) in
    let list = c.deref-then-t-parents.ensures.value ∙ sym (row_is c.args.parents.now c.in-Some.t c.index-parents-t.result c.if-t-parents.true c.index-parents-t.is) in
    record {
      rows_are = c.raise.ensures.rows;
      size = c.raise.auto.rows ∙ c.loop-t.invariant.size;
      held = held_more (lists c.args.parents.now) (lists c.loop-t.rows) _ _ _ c.in-Some.t c.loop-t.invariant.held (omega (arith, within, length-map c.loop-t.rows (λ v. v.items))) list row c.raise.ensures.raised;
    }
