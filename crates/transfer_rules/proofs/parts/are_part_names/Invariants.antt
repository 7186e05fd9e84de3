use Rattle.std.proofs.Common.{map, take}
use Rattle.std.specs.List.{All, Contains}
use Rattle.transfer_rules.specs.Forms.{part_names}
use Rattle.transfer_rules.specs.Inner.Views.{feature_of}
use Rattle.transfer_rules.proofs.parts.are_part_names.Given as goal

abbrev pub invariant-loop-feature : goal.invariant-loop-feature
invariant-loop-feature l = All (λ f. Contains part_names f.name) (map feature_of (take l.feature-index l.features))
