use Rattle.std.proofs.Common.{map, sym, subst}
use Rattle.chart_core.specs.CoreView.{chart_of, leaves_of, limits_of}
use Rattle.chart_core.specs.Grammar.{grammar_of}
use Rattle.chart_core.specs.Kept.{core_of, limits_seen}
use Rattle.chart_core.specs.Leaves.{leaf_seen}
use Rattle.chart_core.specs.Passed.{IsPassed}
use Rattle.packed_forests.specs.Rows.{AreClassRows}
use Rattle.line_charts.proofs.packing.pack.Goals as goal

pub class_rows-requires : goal.class_rows-requires
class_rows-requires g c =
    let s = c.args.shapes.now in
    let f = c.in_ok-finished.finished in
    let p = c.in_ok-finished.ensures in
    let gr = grammar_of g.S.Shapes g.S.Cover.Cover s in
    record {
      passed = subst (λ ls. IsPassed gr (g.S.Shapes.full s) (g.S.Shapes.agrees s) (limits_of (core_of f)) ls f) (sym p.leaves_same)
          (subst (λ l. IsPassed gr (g.S.Shapes.full s) (g.S.Shapes.agrees s) l (map (leaf_seen (g.S.Shapes.meaning s)) c.args.leaves.items) f) (sym p.limits_same) p);
    }

pub returns-in-Ok : goal.returns-in-Ok
returns-in-Ok g c =
    let s = c.args.shapes.now in
    let f = c.in_ok-finished.finished in
    let p = c.in_ok-finished.ensures in
    let meaning = g.S.Shapes.meaning s in
    let k = g.S.Shapes.calculus s in
    record {
      complete = p.complete;
      within = p.within;
      belonging = p.core.belongs_all;
      classes = subst (λ ls. AreClassRows k (limits_seen c.args.limits.now) ls (chart_of meaning (core_of f)) c.in-Ok.classes.items) p.leaves_same
          (subst (λ l. AreClassRows k l (leaves_of meaning (core_of f)) (chart_of meaning (core_of f)) c.in-Ok.classes.items) p.limits_same c.in-Ok.ensures);
      makers = c.forest_laws.ensures;
    }
