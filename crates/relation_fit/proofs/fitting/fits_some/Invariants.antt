use Rattle.std.proofs.Common.{◌≡◌, take, false}
use Rattle.std.specs.List.{list_any}
use Rattle.mrs_places.specs.Paths.{paths_of}
use Rattle.relation_fit.specs.Tests.{ep_fits}
use Rattle.relation_fit.proofs.fitting.fits_some.Given as goal

abbrev pub invariant-loop-k : goal.invariant-loop-k
invariant-loop-k l = list_any (ep_fits l.types l.graph (paths_of l.paths) l.node.0) (take l.k l.eps) ≡ false
