use Rattle.std.proofs.Common.{◌≡◌, ◌++◌, map, drop, option_map}
use Rattle.fs_graph.specs.Facts.{path_of}
use Rattle.engine.specs.Checks.{paths_known}
use Rattle.engine.proofs.checks.paths_known.Given as goal

abbrev pub invariant-loop-path : goal.invariant-loop-path
invariant-loop-path l = map (λ p. path_of p.items) l.known.items ++ paths_known (map (λ p. map (option_map (λ f. f.0)) p.items) (drop l.path-index l.paths)) ≡ paths_known (map (λ p. map (option_map (λ f. f.0)) p.items) l.paths)
