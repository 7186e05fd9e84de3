use Rattle.std.proofs.Common.{map, take, false}
use Rattle.transfer_model.specs.Views.{element_of}
use Rattle.transfer_rules.specs.Features.{IsElementOf}
use Rattle.transfer_rules.specs.Inner.Drafts.{AreSaid, names_seen}
use Rattle.transfer_rules.specs.Inner.Views.{features_seen}
use Rattle.transfer_rules.proofs.building.Builder.elements.Given as goal

abbrev pub invariant-loop-features : goal.invariant-loop-features
invariant-loop-features l = AreSaid IsElementOf false (names_seen l.fn.names) (names_seen l.names) (map features_seen (take l.features-index l.said)) (map element_of l.elements.items)
