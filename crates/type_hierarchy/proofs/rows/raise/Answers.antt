use Rattle.std.specs.Global.{Global}
use Rattle.std.proofs.Common.{ℕ, ◌<◌, ◌∙◌, ◌||◌, length, slice_index_or, slice_set, Vec, All, refl, ap, sym, subst, arith}
use Rattle.std.proofs.lemmas.List.{length-set}
use Rattle.type_hierarchy.specs.Bits.{has_bit, IsRow}
use Rattle.type_hierarchy.proofs.RaiseLemmas.{set_all, Has-at, raised_more}
use Rattle.type_hierarchy.proofs.rows.raise.Goals as goal

pub loop-parent-preserved : goal.loop-parent-preserved
loop-parent-preserved c =
    let p = slice_index_or c.args.parents.now c.loop-parent.parent-index 0 in
    let within : c.loop-parent.parent-index < length c.args.parents.now = omega arith in
    let in_rows : slice_index_or c.args.parents.now c.loop-parent.parent-index 0 < length c.loop-parent.rows = omega (arith, c.requires.range c.loop-parent.parent-index 0 within, c.loop-parent.auto.rows) in
    let old = c.loop-parent.invariant.rows_are p c.index-rows-parent.result in_rows in
    let new = c.extend.ensures.row (length c.loop-parent.rows) old (subst (λ n. IsRow n c.args.row.now) (sym c.loop-parent.auto.rows) c.requires.row) in
    record {
      rows_are = subst (λ n. All {X = Vec ℕ Global} (λ row. IsRow n row.items) (slice_set c.loop-parent.rows p c.extend.new.row)) (sym (length-set c.loop-parent.rows p c.extend.new.row))
          (set_all (λ row. IsRow (length c.loop-parent.rows) row.items) c.loop-parent.rows _ p c.extend.new.row c.loop-parent.invariant.rows_are new in_rows refl);
      raised = raised_more c.args.rows.now c.loop-parent.rows _ c.args.parents.now c.args.row.now p c.index-rows-parent.result c.extend.new.row c.loop-parent.invariant.raised in_rows
          (Has-at c.args.parents.now c.loop-parent.parent-index within) c.index-rows-parent.is refl
          (λ x. c.extend.ensures.has x ∙ ap (λ v. has_bit v.items x || has_bit c.args.row.now x) (sym c.index-rows-parent.is));
    }
