use Rattle.std.proofs.Common.{◌≡◌, map, drop}
use Rattle.tdl_reader.specs.GroupScan.{all_occur}
use Rattle.tdl_reader.specs.Views.{sign_of}
use Rattle.tdl_reader.proofs.groups.all_occur.Given as goal

abbrev pub invariant-loop-sign : goal.invariant-loop-sign
invariant-loop-sign l = all_occur (map sign_of (drop l.sign-index l.signs)) (map sign_of l.pattern) ≡ all_occur (map sign_of l.signs) (map sign_of l.pattern)
