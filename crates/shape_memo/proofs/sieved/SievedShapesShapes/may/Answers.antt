use Rattle.std.proofs.Common.{◌∙◌, map, subst}
use Rattle.chart_model.specs.Calculus.{NoneApplies}
use Rattle.chart_model.specs.Tuples.{shapes_of}
use Rattle.sieve.specs.Unifying.{NoneUnify}
use Rattle.shape_memo.proofs.sieved.SievedShapesShapes.may.Goals as goal

pub returns : goal.returns
returns g c = λ h.
    let none = subst (λ t. NoneUnify t c.sketches-sketches.result.place.now c.sketches-sketches.result.daughter.now) c.types.ensures (c.all_pass.ensures h) in
    subst (λ s. NoneApplies (g.S.Shapes.calculus s) c.args.rule (map (g.S.Shapes.meaning s) (shapes_of c.args.parts.now))) (c.shapes-shapes.ensures ∙ c.self.view_is) (c.sketches-sketches.ensures.apart none)
