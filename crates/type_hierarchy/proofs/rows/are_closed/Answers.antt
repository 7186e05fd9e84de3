use Rattle.std.proofs.Common.{◌≡◌, ◌<◌, ◌∙◌, length, inl, inr, ap, sym, subst, arith}
use Rattle.std.proofs.lemmas.Bool.{cases_lt}
use Rattle.type_hierarchy.specs.Bits.{has_bit}
use Rattle.type_hierarchy.specs.Order.{Has}
use Rattle.type_hierarchy.specs.Inner.Reach.{lists}
use Rattle.type_hierarchy.specs.Inner.Rows.{row_at}
use Rattle.type_hierarchy.proofs.RowLemmas.{row_is}
use Rattle.type_hierarchy.proofs.rows.are_closed.Goals as goal

pub loop-t-preserved : goal.loop-t-preserved
loop-t-preserved c = λ t h p x has e.
    let within : c.loop-t.t < length c.args.parents.now = omega arith in
    let list = c.deref.ensures.value ∙ sym (row_is c.args.parents.now c.loop-t.t c.index-parents-t.result within c.index-parents-t.is) in
    let row = c.deref-in-loop-t.ensures.value ∙ sym (row_is c.args.rows.now c.loop-t.t c.index-rows-t.result (omega (arith, within, c.requires.size)) c.index-rows-t.is) in
    elim (cases_lt t c.loop-t.t) [
      | inl less ↦ c.loop-t.invariant t less p x has e
      | inr more ↦
          let same : t ≡ c.loop-t.t = omega arith in
          c.are_above.ensures c.if-not-are_above.false p x (subst (Has p) (sym list) (subst (λ j. Has p (row_at (lists c.args.parents.now) j)) same has))
          (ap (λ q. has_bit q x) row ∙ ap (λ j. has_bit (row_at (lists c.args.rows.now) j) x) (sym same) ∙ e)
    ]
