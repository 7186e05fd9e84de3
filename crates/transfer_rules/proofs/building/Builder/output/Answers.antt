use Rattle.std.proofs.Common.{map}
use Rattle.transfer_model.specs.Views.{element_of}
use Rattle.transfer_rules.specs.Inner.Drafts.{names_seen}
use Rattle.transfer_rules.specs.Inner.Views.{feature_of}
use Rattle.transfer_rules.proofs.Drafting.{said_output, no_output}
use Rattle.transfer_rules.proofs.building.Builder.output.Goals as goal

pub returns-in_default-clause-none : goal.returns-in_default-clause-none
returns-in_default-clause-none c = λ h form.
    no_output (names_seen c.args.names.now) (names_seen c.element.new.names) (map feature_of c.args.features.now) (element_of c.in_ok-element.element) c.in_ok-element.ensures.some c.in_default.is form

pub returns-clause-some : goal.returns-clause-some
returns-clause-some c =
    said_output (names_seen c.args.names.now) (names_seen c.element.new.names) (map feature_of c.args.features.now) (element_of c.in_ok-element.element) c.in-Some.label c.in_ok-element.ensures.some c.in-Some.is
