use Rattle.std.proofs.Common.{◌≡◌, ◌<◌, ◌∙◌, ◌||◌, ◌==◌, refl, sym, ap, subst, arith, length, slice_index_or, false}
use Rattle.std.proofs.lemmas.List.{length-map}
use Rattle.type_hierarchy.specs.Bits.{has_bit, IsRow}
use Rattle.type_hierarchy.proofs.RowLemmas.{spread_more}
use Rattle.type_hierarchy.proofs.rows.spread.Goals as goal
use Rattle.type_hierarchy.proofs.rows.spread.Goals.{then-marks-b, else-marks-b}

pub loop-b-init : goal.loop-b-init
loop-b-init c = record { rows_are = c.requires.rows; size = refl; others = λ k h x ne. refl; done = λ k h h'. absurd (omega arith); rest = λ k h h'. refl }

pub loop-b-preserved : goal.loop-b-preserved
loop-b-preserved c =
    let within : c.loop-b.b < length c.loop-b.rows = omega (arith, c.loop-b.auto.rows) in
    let marked : c.if-marks-b.is_above ≡ (slice_index_or c.args.marks.now c.loop-b.b false || (c.loop-b.b == c.args.t)) =
    elim c.if-marks-b.branch [
      | then-marks-b w ↦ w.is_above-is ∙ w.if-marks-b.true ∙ sym (ap (λ p. p || (c.loop-b.b == c.args.t)) w.if-marks-b.true)
      | else-marks-b w ↦ w.is_above-is ∙ sym (ap (λ p. p || (c.loop-b.b == c.args.t)) w.if-marks-b.false)
    ] in
    let old = ap (λ v. has_bit v.items c.args.t) (sym c.index-rows-b.is) in
    spread_more c.args.rows.now c.loop-b.rows _ c.args.marks.now c.args.t c.loop-b.b c.index-rows-b.result c.mark.new.row c.loop-b.invariant within
    (omega (arith, c.requires.t_in, c.loop-b.invariant.size)) c.index-rows-b.is refl
    (c.mark.ensures.has ∙ ap (λ p. p || c.if-marks-b.is_above) old ∙ ap (λ p. has_bit c.index-rows-b.result.items c.args.t || p) marked)
    (λ y ne. c.mark.ensures.others y ne ∙ ap (λ v. has_bit v.items y) (sym c.index-rows-b.is))
    (λ n h r. c.mark.ensures.row n h (subst (λ v. IsRow n v.items) c.index-rows-b.is r))

pub mark-requires : goal.mark-requires
mark-requires c =
    let within : c.loop-b.b < length c.loop-b.rows = omega (arith, c.loop-b.auto.rows) in
    let row = c.loop-b.invariant.rows_are c.loop-b.b c.index-rows-b.result within in
    omega (arith, row.enough, c.requires.t_in, c.loop-b.invariant.size)

pub returns : goal.returns
returns c = record {
  rows = c.loop-b.invariant.rows_are;
  marked = (
    length-map c.loop-b.rows (λ v. v.items) ∙ c.loop-b.invariant.size ∙ sym (length-map c.args.rows.now (λ v. v.items)),
    λ b h x ne. c.loop-b.invariant.others b (omega (arith, h, length-map c.args.rows.now (λ v. v.items))) x ne,
    λ b h. let l : b < length c.args.rows.now = omega (arith, h, length-map c.args.rows.now (λ v. v.items)) in c.loop-b.invariant.done b (omega arith) l,
  );
}
