use Rattle.std.proofs.Common.{◌≡◌, drop}
use Rattle.sieve.specs.Sketches.{sketches_meet}
use Rattle.sieve.proofs.quick.all_pass.Given as goal

abbrev pub invariant-loop-k : goal.invariant-loop-k
invariant-loop-k l = sketches_meet l.types (drop l.k l.a) (drop l.k l.b) ≡ sketches_meet l.types l.a l.b
