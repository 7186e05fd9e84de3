use Rattle.std.proofs.Common.{◌≡◌, map, take, Some}
use Rattle.std.specs.Option.{option_map}
use Rattle.fs_graph.specs.Facts.{path_of}
use Rattle.closed_lists.proofs.lists.known_path.Given as goal

abbrev pub invariant-loop-feat : goal.invariant-loop-feat
invariant-loop-feat l = map (option_map (λ f. f.0)) (take l.feat-index l.path) ≡ map (λ f. Some f) (path_of l.known.items)
