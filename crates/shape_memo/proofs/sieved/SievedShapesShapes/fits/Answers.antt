use Rattle.std.proofs.Common.{◌≡◌, false, map, subst}
use Rattle.std.specs.Prelude.{IfOk}
use Rattle.chart_model.specs.Calculus.{NoneApplies}
use Rattle.chart_model.specs.Tuples.{shapes_of}
use Rattle.shape_memo.proofs.sieved.SievedShapesShapes.fits.Goals as goal

pub returns : goal.returns
returns g c =
    subst (λ s. IfOk c.fits.result (λ yes. yes ≡ false → NoneApplies (g.S.Shapes.calculus s) c.args.rule (map (g.S.Shapes.meaning s) (shapes_of c.args.parts.now)))) c.self.view_is c.fits.ensures
