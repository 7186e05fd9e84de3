use Rattle.std.proofs.Common.{◌≡◌, drop, map}
use Rattle.transfer_rules.specs.Forms.{value_at}
use Rattle.transfer_rules.specs.Inner.Views.{feature_of}
use Rattle.transfer_rules.proofs.features.value_at.Given as goal

abbrev pub invariant-loop-feature : goal.invariant-loop-feature
invariant-loop-feature l = value_at l.name (map feature_of (drop l.feature-index l.features)) ≡ value_at l.name (map feature_of l.features)
