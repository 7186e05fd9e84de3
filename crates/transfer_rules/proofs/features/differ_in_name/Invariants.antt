use Rattle.std.proofs.Common.{map, take}
use Rattle.transfer_rules.specs.Features.{DifferInName}
use Rattle.transfer_rules.specs.Inner.Views.{feature_of}
use Rattle.transfer_rules.proofs.features.differ_in_name.Given as goal

abbrev pub invariant-loop-i : goal.invariant-loop-i
invariant-loop-i l = DifferInName (map feature_of (take l.i l.features))
