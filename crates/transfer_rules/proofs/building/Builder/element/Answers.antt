use Rattle.std.proofs.Common.{◌≤◌, false, map, ap, sym, subst}
use Rattle.std.specs.Option.{option_map}
use Rattle.std.specs.String.{string_bytes}
use Rattle.std.proofs.lemmas.List.{length-map}
use Rattle.transfer_rules.specs.declared.fault.Refusal.TheVariants.{Form}
use Rattle.transfer_rules.specs.Inner.Drafts.{draft_of, names_seen}
use Rattle.transfer_rules.specs.Inner.Views.{feature_of}
use Rattle.transfer_rules.proofs.Joining.{passed_on}
use Rattle.transfer_rules.proofs.Drafting.{said_element}
use Rattle.transfer_rules.proofs.building.Builder.element.Goals as goal

pub returns-in_err-draft-clause-none : goal.returns-in_err-draft-clause-none
returns-in_err-draft-clause-none c = λ h form. c.in_err-draft.ensures.none (passed_on c.from_residual.result c.in_err-draft.field-0.0 Form c.from_residual.ensures.1 h) false form

pub returns-clause-some : goal.returns-clause-some
returns-clause-some c =
    let draft = c.in_ok-draft.draft in
    let said = c.in_ok-draft.ensures in
    said_element (names_seen c.args.names.now) (names_seen c.drafted.new.names) (map feature_of c.args.features.now) (draft_of draft) c.in-Some.pred.now (string_bytes c.in_ok-predicate.field-0) said.names said.some
    (subst (λ n. n ≤ 100) (sym (length-map c.args.features.now feature_of)) said.few) said.once said.each (ap (option_map (λ s. s.now)) c.in-Some.is) c.in_ok-predicate.ensures.some
