use Rattle.fs_graph.specs.Facts.{path_of}
use Rattle.forced_types.proofs.ClosedSteps.{holds_same}
use Rattle.forced_types.proofs.nodes.Nodes.holds_same.Goals as goal

pub returns : goal.returns
returns c = λ yes. holds_same c.args.given.system.now.types c.args.self.now c.args.n c.args.left (path_of c.args.a.now) (path_of c.args.b.now)
    (c.has_front.ensures c.if-not-has_front.false) (c.has_front-else-not-has_front.ensures c.if-not-has_front-2.false) (c.are_same.ensures yes)
