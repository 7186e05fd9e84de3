use Rattle.std.proofs.Common.{◌≡◌, map, drop, option_map}
use Rattle.fs_graph.specs.Facts.{path_of}
use Rattle.engine.specs.Checks.{path_known}
use Rattle.engine.proofs.CheckLemmas.{after}
use Rattle.engine.proofs.checks.path_known.Given as goal

abbrev pub invariant-loop-feat : goal.invariant-loop-feat
invariant-loop-feat l = after (path_of l.path.items) (path_known (map (option_map (λ f. f.0)) (drop l.feat-index l.feats))) ≡ path_known (map (option_map (λ f. f.0)) l.feats)
