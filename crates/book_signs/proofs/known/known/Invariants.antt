use Rattle.std.proofs.Common.{◌≡◌, ◌++◌, map, drop, option_map}
use Rattle.fs_graph.specs.Facts.{path_of}
use Rattle.book_signs.specs.Signed.{known_of}
use Rattle.book_signs.proofs.known.known.Given as goal

abbrev pub invariant-loop-feat : goal.invariant-loop-feat
invariant-loop-feat l = path_of l.found.items ++ known_of (map (option_map (λ f. f.0)) (drop l.feat-index l.feats)) ≡ known_of (map (option_map (λ f. f.0)) l.feats)
