use Rattle.std.proofs.Common.{◌≡◌, ◌∙◌, ap}
use Rattle.std.specs.Arc.{arc_value}
use Rattle.rule_trees.specs.Mothers.{graph_view}
use Rattle.rule_trees.specs.declared.bounded.BoundedGraph.{BoundedGraph}
use Rattle.rule_trees.specs.declared.whole.Whole.{Whole}
use Rattle.rule_trees.proofs.BoundLemmas.{bounds_are, bounds_seen}
use Rattle.rule_trees.proofs.full.FullStructure.of.Goals as goal

pub returns : goal.returns
returns c =
    let t = c.args.signs.now in
    let x = (arc_value c.in_ok-whole.whole).bounded in
    let is : x ≡ c.of.result.bounded = ap (λ (w : Whole). w.bounded) c.in_ok-whole.ensures.ok in
    bounds_seen t x (bounds_are t x (ap (λ (b : BoundedGraph). b.types) is ∙ c.of.ensures.types) (ap (λ (b : BoundedGraph). b.feats) is ∙ c.of.ensures.feats) (ap (λ (b : BoundedGraph). b.limit) is ∙ c.of.ensures.limit))
    ∙ ap (graph_view t) (ap (λ (b : BoundedGraph). b.plain) is ∙ c.of.ensures.graph)
