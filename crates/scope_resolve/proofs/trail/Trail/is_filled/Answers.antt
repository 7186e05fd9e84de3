use Rattle.scope_resolve.specs.Inner.Filling.{path}
use Rattle.scope_resolve.proofs.Steps.{filled_yes, filled_no}
use Rattle.scope_resolve.proofs.trail.Trail.is_filled.Goals as goal

pub returns-in-Some : goal.returns-in-Some
returns-in-Some c = filled_yes c.args.self.now.root c.args.hole _ (path c.args.self.now) c.in-Some.ensures

pub returns-in-None : goal.returns-in-None
returns-in-None c = filled_no c.args.self.now.root c.args.hole (path c.args.self.now) c.in-None.ensures
