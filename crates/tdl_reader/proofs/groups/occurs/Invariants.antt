use Rattle.std.proofs.Common.{◌≡◌, map, drop}
use Rattle.tdl_reader.specs.GroupScan.{occurs}
use Rattle.tdl_reader.specs.Views.{sign_of}
use Rattle.tdl_reader.proofs.groups.occurs.Given as goal

abbrev pub invariant-loop-sign : goal.invariant-loop-sign
invariant-loop-sign l = occurs l.name (map sign_of (drop l.sign-index l.signs)) ≡ occurs l.name (map sign_of l.signs)
