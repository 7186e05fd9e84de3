use Rattle.std.proofs.Common.{◌≡◌, map, take}
use Rattle.scope_model.specs.Answers.{plug_of}
use Rattle.scope_resolve.specs.Inner.Filling.{path, plug_here}
use Rattle.scope_resolve.proofs.filling.plugging_of.Given as goal

abbrev pub invariant-loop-k : goal.invariant-loop-k
invariant-loop-k l = map plug_of l.holes.items ≡ map (plug_here (path l.trail)) (take l.k l.net.holes.items)
