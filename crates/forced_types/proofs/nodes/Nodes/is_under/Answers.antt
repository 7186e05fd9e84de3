use Rattle.std.proofs.Common.{sym, ◌∙◌}
use Rattle.fs_graph.specs.Facts.{path_of}
use Rattle.forced_types.proofs.ClosedLemmas.{walk-ends}
use Rattle.forced_types.proofs.nodes.Nodes.is_under.Goals as goal

pub covers-requires-clause-node : goal.covers-requires-clause-node
covers-requires-clause-node c = (walk-ends c.args.self.now c.requires.flat c.args.n c.in-Some.end (path_of c.args.path.now) c.requires.node (sym c.follow.ensures ∙ c.in-Some.is)).0
