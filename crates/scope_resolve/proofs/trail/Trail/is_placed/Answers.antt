use Rattle.scope_resolve.specs.Inner.Filling.{path}
use Rattle.scope_resolve.proofs.Steps.{placed_same, there_else}
use Rattle.scope_resolve.proofs.trail.Trail.is_placed.Goals as goal

pub returns-clause-placed : goal.returns-clause-placed
returns-clause-placed c =
    let t = c.args.self.now in
    placed_same t.root c.args.label (path t) c.has.result (there_else t.root c.args.label (path t) c.has.result c.if-label-self.false c.has.ensures)
