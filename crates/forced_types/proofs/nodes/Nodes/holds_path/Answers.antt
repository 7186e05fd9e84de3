use Rattle.fs_graph.specs.Facts.{path_of}
use Rattle.forced_types.proofs.ClosedSteps.{holds_exists}
use Rattle.forced_types.proofs.nodes.Nodes.holds_path.Goals as goal

pub returns : goal.returns
returns c = λ yes. holds_exists c.args.given.system.now.types c.args.self.now c.args.n c.args.left (path_of c.args.path.now) (c.has_front.ensures yes)
