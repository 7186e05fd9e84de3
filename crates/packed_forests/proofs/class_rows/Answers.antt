use Rattle.std.proofs.Common.{◌≡◌, ◌≤◌, ◌+◌, ◌++◌, [], ◌∷◌, sym, subst, arith, length}
use Rattle.std.proofs.lemmas.List.{length-map}
use Rattle.chart_core.specs.CoreView.{chart_of, leaves_of, limits_of}
use Rattle.chart_core.specs.Kept.{core_of, rows_in}
use Rattle.chart_core.specs.View.{row_of}
use Rattle.packed_forests.specs.Inner.Told.{AreTold}
use Rattle.packed_forests.proofs.Telling.{none_told, told_none, told_some, all_told}
use Rattle.packed_forests.proofs.class_rows.Goals as goal
use Rattle.packed_forests.proofs.class_rows.Goals.{in-Some+in_ok-push, in_default}

pub loop-number-init : goal.loop-number-init
loop-number-init g c =
    let k = g.S.Shapes.calculus c.args.shapes.now in
    let ch = chart_of (g.S.Shapes.meaning c.args.shapes.now) (core_of c.args.finished.now) in
    subst (AreTold k ch 0) (sym c.new-classes.ensures.items) (none_told k ch)

pub loop-number-preserved : goal.loop-number-preserved
loop-number-preserved g c =
    let k = g.S.Shapes.calculus c.args.shapes.now in
    let ch = chart_of (g.S.Shapes.meaning c.args.shapes.now) (core_of c.args.finished.now) in
    let n = c.loop-number.number in
    let old = c.loop-number.classes.items in
    elim c.match-branch-3.branch [
      | in-Some+in_ok-push w ↦
          (let e : c.match-branch-3.classes.items ≡ old ++ w.in-Some.class ∷ [] = let h = w.classes-is in let x = w.in_ok-push.ensures.items in cc in
          told_some k ch n old c.in_ok-class.field-0 w.in-Some.class c.match-branch-3.classes.items c.loop-number.invariant c.in_ok-class.ensures w.in-Some.is e)
      | in_default w ↦
          (let e : c.match-branch-3.classes.items ≡ old = let h = w.classes-is in cc in
          subst (AreTold k ch (n + 1)) (sym e) (told_none k ch n old c.in_ok-class.field-0 c.loop-number.invariant c.in_ok-class.ensures w.in_default.is))
    ]

pub returns : goal.returns
returns g c =
    let meaning = g.S.Shapes.meaning c.args.shapes.now in
    let core = core_of c.args.finished.now in
    let ch = chart_of meaning core in
    let over : length ch.rows ≤ c.loop-number.number = omega (arith, c.loop-number-test.false, c.rows-number-end.ensures, length-map (rows_in core) (row_of meaning)) in
    all_told (g.S.Shapes.calculus c.args.shapes.now) ch (limits_of core) (leaves_of meaning core) c.loop-number.number c.loop-number.classes.items c.loop-number.invariant over
