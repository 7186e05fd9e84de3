use Rattle.std.proofs.Common.{◌≡◌, ◌<◌, ◌∷◌, [], length, map, take, Ok}
use Rattle.std.specs.Prelude.{All}
use Rattle.mrs_places.specs.Paths.{paths_of, feature_of}
use Rattle.mrs_places.specs.Looking.{all_there, look}
use Rattle.mrs_places.specs.Inner.Walked.{placed, cell_path, element_path, nodes_of}
use Rattle.mrs_places.proofs.lists.firsts.Given as goal

abbrev pub invariant-loop-k : goal.invariant-loop-k
invariant-loop-k l = record {
  all_in : All (λ n. n.0 < length l.graph.types) l.elements.items;
  count : length l.elements.items ≡ l.k;
  there : all_there (map (λ c. look l.graph c ((paths_of l.paths).first ∷ [])) (placed (cell_path (paths_of l.paths) (feature_of l.list)) 0 (nodes_of (take l.k l.cells))))
      ≡ Ok (placed (element_path (paths_of l.paths) (feature_of l.list)) 0 (nodes_of l.elements.items));
}
