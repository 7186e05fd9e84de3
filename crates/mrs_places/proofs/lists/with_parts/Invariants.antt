use Rattle.std.proofs.Common.{◌≡◌, length, map, take, Ok}
use Rattle.std.specs.Prelude.{All}
use Rattle.mrs_places.specs.Paths.{paths_of, feature_of}
use Rattle.mrs_places.specs.Looking.{all_there, look_pair}
use Rattle.mrs_places.specs.Inner.Walked.{placed, element_path, nodes_of}
use Rattle.mrs_places.specs.Places.{pairs_of, IsPairIn}
use Rattle.mrs_places.proofs.lists.with_parts.Given as goal

abbrev pub invariant-loop-k : goal.invariant-loop-k
invariant-loop-k l = record {
  all_in : All (IsPairIn (length l.graph.types)) (pairs_of l.pairs.items);
  there : all_there (map (look_pair l.graph (feature_of l.feats.one.now) (feature_of l.feats.two.now)) (placed (element_path (paths_of l.paths) (feature_of l.feats.list.now)) 0 (nodes_of (take l.k l.elements))))
      ≡ Ok (pairs_of l.pairs.items);
}
