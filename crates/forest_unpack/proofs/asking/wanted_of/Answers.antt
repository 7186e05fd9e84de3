use Rattle.std.proofs.Common.{map, [], ap, refl, ◌∙◌, ◌+◌}
use Rattle.chart_core.specs.Kept.{core_of, rows_in}
use Rattle.forest_unpack.specs.Keeping.{asked_of}
use Rattle.forest_unpack.proofs.Askings.{asked_none, asked_same, asked_skip, asked_next}
use Rattle.forest_unpack.proofs.asking.wanted_of.Goals.{then-is_wanted+in_ok-push, else-is_wanted}
use Rattle.forest_unpack.proofs.asking.wanted_of.Goals as goal

pub loop-i-init : goal.loop-i-init
loop-i-init g c =
    asked_same (g.F.Fulls.wholes c.args.fulls.now) (rows_in (core_of c.args.finished.now)) 0 [] c.new-wanted.result.items c.new-wanted.ensures.items (asked_none (g.F.Fulls.wholes c.args.fulls.now) (rows_in (core_of c.args.finished.now)))

pub loop-i-preserved : goal.loop-i-preserved
loop-i-preserved g c =
    let w = g.F.Fulls.wholes c.args.fulls.now in
    let rows = rows_in (core_of c.args.finished.now) in
    elim c.if-is_wanted.branch [
      | then-is_wanted+in_ok-push b ↦
          asked_next w rows c.loop-i.i c.row-row.result.now c.row-row.ensures c.loop-i.wanted.items c.if-is_wanted.wanted.items _ c.loop-i.invariant (ap (λ v. v.items) b.wanted-is ∙ b.in_ok-push.ensures.items) refl refl (c.is_wanted.ensures.live b.if-is_wanted.true).0 (c.is_wanted.ensures.live b.if-is_wanted.true).1
      | else-is_wanted b ↦
          asked_same w rows (c.loop-i.i + 1) c.loop-i.wanted.items c.if-is_wanted.wanted.items (ap (λ v. v.items) b.wanted-is)
          (asked_skip w rows c.loop-i.i c.row-row.result.now c.row-row.ensures (map asked_of c.loop-i.wanted.items) c.loop-i.invariant (λ shape into v. c.is_wanted.ensures.none b.if-is_wanted.false shape into v))
    ]
