use Rattle.std.proofs.Common.{◌∙◌, Some, ap, sym}
use Rattle.chart_model.specs.At.{to_get}
use Rattle.derivation.specs.Views.{derivation_of}
use Rattle.line_charts.specs.Inner.Stages.{leaf_maker}
use Rattle.line_charts.proofs.Lists.{at_map, or_at}
use Rattle.line_charts.proofs.making.tree_named.Goals as goal

pub returns-in-Ok : goal.returns-in-Ok
returns-in-Ok g c = λ place table ds.
    let at = to_get (at_map (λ x. derivation_of x.tree) (or_at c.args.trees.now c.args.name c.index-trees-name.result c.requires)) in
    leaf_maker c.args.name ds (derivation_of c.in-Ok.tree) (at ∙ ap Some (sym c.in-Ok.ensures.is))
