use Rattle.std.proofs.Common.{◌∙◌, ap, sym}
use Rattle.std.specs.Option.{option_map}
use Rattle.tdl_reader.specs.Views.{term_of}
use Rattle.transfer_rules.specs.Forms.{absent, there}
use Rattle.transfer_rules.specs.Inner.Views.{elements_seen}
use Rattle.transfer_rules.proofs.parts.part.Goals as goal

pub returns-in_ok-elements_of-in-Some-clause-some : goal.returns-in_ok-elements_of-in-Some-clause-some
returns-in_ok-elements_of-in-Some-clause-some c =
    there (term_of c.in-Some.value.now) (elements_seen c.in_ok-elements_of-in-Some.field-0) (sym c.value_at.ensures ∙ ap (option_map (λ x. term_of x.now)) c.in-Some.is) c.in_ok-elements_of-in-Some.ensures.some

pub returns-in-None-clause-some : goal.returns-in-None-clause-some
returns-in-None-clause-some c = absent (sym c.value_at.ensures ∙ ap (option_map (λ x. term_of x.now)) c.in-None.is)
