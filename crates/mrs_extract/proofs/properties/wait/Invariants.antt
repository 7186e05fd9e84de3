use Rattle.std.proofs.Common.{◌≡◌, ◌-◌, ◌++◌, drop, map, length}
use Rattle.std.specs.Prelude.{filter, reverse}
use Rattle.mrs_places.specs.Paths.{paths_of}
use Rattle.mrs_extract.specs.Extraction.{is_open}
use Rattle.mrs_extract.specs.Inner.Routes.{waits}
use Rattle.mrs_extract.proofs.properties.wait.Given as goal

abbrev pub invariant-loop-k : goal.invariant-loop-k
invariant-loop-k l = reverse l.waiting.items ≡ map (waits l.depth) (filter (is_open (paths_of l.paths)) (drop (length l.arcs - l.k) l.arcs)) ++ reverse l.fn.waiting.items
