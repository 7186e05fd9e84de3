use Rattle.std.proofs.Common.{◌≡◌, ◌<◌, ◌-◌, length, false}
use Rattle.mrs_places.specs.Paths.{paths_of}
use Rattle.relation_fit.specs.Tests.{misfits}
use Rattle.relation_fit.proofs.fitting.misfits.Given as goal

abbrev pub invariant-loop-turn : goal.invariant-loop-turn
invariant-loop-turn l = (misfits l.types l.graph (paths_of l.paths) l.eps l.rest.0 l.end.0 (length l.graph.types) l.fn.start.0 false
    ≡ misfits l.types l.graph (paths_of l.paths) l.eps l.rest.0 l.end.0 (length l.graph.types - l._turn) l.node.0 l.seen) × (l.node.0 < length l.graph.types)
