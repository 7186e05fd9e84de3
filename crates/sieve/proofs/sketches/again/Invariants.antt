use Rattle.std.proofs.Common.{◌≡◌, take}
use Rattle.sieve.specs.Sketches.{paths_of}
use Rattle.sieve.proofs.sketches.again.Given as goal

abbrev pub invariant-loop-path : goal.invariant-loop-path
invariant-loop-path l = paths_of l.list.items ≡ paths_of (take l.path-index l.paths)
