use Rattle.std.proofs.Common.{◌∷◌, [], Some, None, map, sym, ap, ◌∙◌}
use Rattle.std.proofs.lemmas.List.{map-append}
use Rattle.derivation.specs.Views.{derivation_of}
use Rattle.line_charts.specs.Inner.Reaches.{reach_seen}
use Rattle.line_charts.proofs.UnknownSteps.{gathered, append_none}
use Rattle.line_charts.proofs.unknown.reaches_in.Goals as goal
use Rattle.line_charts.proofs.unknown.reaches_in.Goals.{in-Some+in_ok-push-in-Some, in-None}

pub loop-tree-preserved : goal.loop-tree-preserved
loop-tree-preserved g c =
    elim c.match-reach_in.branch [
      | in-Some+in_ok-push-in-Some w ↦
          gathered (λ t. derivation_of t.tree) c.args.single c.args.trees.now c.loop-tree.tree-index c.tree-item.result c.loop-tree.reaches.items c.match-reach_in.reaches.items (Some (reach_seen w.in-Some.reach))
          c.loop-tree-test.true c.tree-item.is w.in-Some.ensures c.loop-tree.invariant
          (ap (λ v. map reach_seen v.items) w.reaches-is ∙ ap (map reach_seen) w.in_ok-push-in-Some.ensures.items ∙ map-append reach_seen c.loop-tree.reaches.items (w.in-Some.reach ∷ []))
      | in-None w ↦
          gathered (λ t. derivation_of t.tree) c.args.single c.args.trees.now c.loop-tree.tree-index c.tree-item.result c.loop-tree.reaches.items c.match-reach_in.reaches.items None
          c.loop-tree-test.true c.tree-item.is w.in-None.ensures c.loop-tree.invariant
          (ap (λ v. map reach_seen v.items) w.reaches-is ∙ sym (append_none (map reach_seen c.loop-tree.reaches.items)))
    ]
