use Rattle.std.proofs.Common.{◌≡◌, ◌++◌, map, length}
use Rattle.std.specs.Prelude.{reverse}
use Rattle.mrs_model.specs.Views.{property_of}
use Rattle.mrs_places.specs.Paths.{paths_of}
use Rattle.mrs_extract.specs.Inner.Routes.{routes, pending, properties_of, numbers_of, AreWaiting}
use Rattle.mrs_extract.proofs.properties.properties.Given as goal

abbrev pub decreases-loop-next : goal.decreases-loop-next
decreases-loop-next l = length (pending l.graph (paths_of l.paths) (length l.graph.types) (numbers_of l.spread.path.items) (reverse l.spread.waiting.items))

abbrev pub invariant-loop-next : goal.invariant-loop-next
invariant-loop-next l = record {
  waiting : AreWaiting (length l.graph.types) (length l.paths.feats.items) (numbers_of l.spread.path.items) (reverse l.spread.waiting.items);
  told : map property_of l.spread.found.items ++ properties_of l.graph l.types (paths_of l.paths) (pending l.graph (paths_of l.paths) (length l.graph.types) (numbers_of l.spread.path.items) (reverse l.spread.waiting.items))
      ≡ properties_of l.graph l.types (paths_of l.paths) (routes l.graph (paths_of l.paths) (length l.graph.types) l.fn.n.0);
}
