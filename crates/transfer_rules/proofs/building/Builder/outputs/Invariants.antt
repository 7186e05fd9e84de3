use Rattle.std.proofs.Common.{map, take, true}
use Rattle.mrs_model.specs.Views.{predication_of}
use Rattle.transfer_rules.specs.Forms.{IsOutputOf}
use Rattle.transfer_rules.specs.Inner.Drafts.{AreSaid, names_seen}
use Rattle.transfer_rules.specs.Inner.Views.{features_seen}
use Rattle.transfer_rules.proofs.building.Builder.outputs.Given as goal

abbrev pub invariant-loop-features : goal.invariant-loop-features
invariant-loop-features l = AreSaid IsOutputOf true (names_seen l.fn.names) (names_seen l.names) (map features_seen (take l.features-index l.said)) (map predication_of l.eps.items)
