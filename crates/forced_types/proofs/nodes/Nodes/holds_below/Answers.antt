use Rattle.fs_graph.specs.Facts.{path_of}
use Rattle.forced_types.proofs.ClosedSteps.{holds_below}
use Rattle.forced_types.proofs.nodes.Nodes.holds_below.Goals as goal

pub returns : goal.returns
returns c = λ yes. holds_below c.args.given.system.now.types c.args.self.now c.args.n c.args.left (path_of c.args.path.now) c.args.ty
    (c.has_front.ensures c.if-not-has_front.false) (c.is_under.ensures yes)
