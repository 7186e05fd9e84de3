use Rattle.std.proofs.Common.{◌<◌, All, List, [], length, map, sym, subst, arith}
use Rattle.type_hierarchy.specs.Table.{count_of}
use Rattle.chart_model.specs.Calculus.{Along, along_none}
use Rattle.chart_core.specs.Kept.{core_of, rows_in}
use Rattle.chart_core.proofs.Grows.{all_snoc}
use Rattle.tree_model.specs.Signs.{rule_system}
use Rattle.book_signs.specs.Trees.{signs_of}
use Rattle.rule_trees.specs.Mothers.{IsShortIn}
use Rattle.line_charts.specs.Views.{class_of}
use Rattle.line_charts.specs.Inner.Hosts.{IsHostTellable, IsToldHost, key_of, trees_in}
use Rattle.line_charts.specs.declared.ToldClass.{ToldClass}
use Rattle.line_charts.proofs.Steps.{told_next}
use Rattle.line_charts.proofs.telling.told_classes.Goals as goal

pub loop-host-init : goal.loop-host-init
loop-host-init g c =
    let e = c.new-classes.ensures.items in
    let P = λ (t : ToldClass). t.ty.0 < count_of c.args.signs.now.book.system.types in (
      subst (λ (ts : List ToldClass). Along (IsToldHost (signs_of c.args.signs.now) (rows_in (core_of c.args.finished.now)) (trees_in c.args.trees.now) c.args.table.now) [] (map class_of ts)) (sym e) along_none,
      subst (All P) (sym e) (λ k d low. absurd (omega (arith, low))),
    )

pub told_class-requires-clause-short : goal.told_class-requires-clause-short
told_class-requires-clause-short g c =
    subst (λ h. IsShortIn c.args.signs.now (key_of h).graph) (sym c.host-item.is) (c.requires.short c.loop-host.host-index c.host-item.result c.loop-host-test.true)

pub told_class-requires-clause-tellable : goal.told_class-requires-clause-tellable
told_class-requires-clause-tellable g c =
    let s = c.args.signs.now in
    subst (λ h. IsHostTellable (rows_in (core_of c.args.finished.now)) (length c.args.trees.now) (length (rule_system (signs_of s)).rules) (length c.args.table.now) h) (sym c.host-item.is)
    (c.requires.tellable c.loop-host.host-index c.host-item.result c.loop-host-test.true)

pub loop-host-preserved : goal.loop-host-preserved
loop-host-preserved g c =
    let h = c.host-item.result in
    let told = c.in_ok-told_class.field-0 in
    let old = c.loop-host.classes.items in
    let e = c.in_ok-push.ensures.items in
    let P = λ (t : ToldClass). t.ty.0 < count_of c.args.signs.now.book.system.types in (
      told_next (IsToldHost (signs_of c.args.signs.now) (rows_in (core_of c.args.finished.now)) (trees_in c.args.trees.now) c.args.table.now) (λ h. h) class_of c.args.hosts.now c.loop-host.host-index h old c.push.new.self.items told
          c.loop-host-test.true c.host-item.is e c.in_ok-told_class.ensures.told c.loop-host.invariant.0,
      subst (All P) (sym e) (all_snoc P old told c.loop-host.invariant.1 c.in_ok-told_class.ensures.typed),
    )
