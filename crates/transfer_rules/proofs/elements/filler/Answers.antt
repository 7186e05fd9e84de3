use Rattle.std.proofs.Common.{◌∙◌, Err, Some, ap, sym}
use Rattle.std.specs.String.{string_bytes}
use Rattle.tdl_reader.specs.Views.{term_of}
use Rattle.transfer_rules.specs.declared.fault.Refusal.TheVariants.{Form}
use Rattle.transfer_rules.specs.Inner.Drafts.{names_seen}
use Rattle.transfer_rules.proofs.Taking.{err_back, no_role_value, text_filler, text_value, coref_filler, coref_value}
use Rattle.transfer_rules.proofs.elements.filler.Goals as goal

pub returns-in_err-name-in-None-clause-none : goal.returns-in_err-name-in-None-clause-none
returns-in_err-name-in-None-clause-none c = λ e. no_role_value (term_of c.args.value.now) (sym c.in-None.ensures)
    (c.in_err-name-in-None.ensures.none (ap Err (err_back c.from_residual-in_err-name-in-None.result c.in_err-name-in-None.field-0.0 Form c.from_residual-in_err-name-in-None.ensures.1 e)))

pub returns-in_ok-from_str-in-Some-clause-some : goal.returns-in_ok-from_str-in-Some-clause-some
returns-in_ok-from_str-in-Some-clause-some c =
    text_filler (names_seen c.args.names.now) (term_of c.args.value.now) (string_bytes c.in_ok-from_str-in-Some.field-0) (sym c.in-Some.ensures ∙ ap Some (sym c.in_ok-from_str-in-Some.ensures.ok))

pub returns-in_ok-from_str-in-Some-clause-form : goal.returns-in_ok-from_str-in-Some-clause-form
returns-in_ok-from_str-in-Some-clause-form c = text_value (term_of c.args.value.now) c.in-Some.text.now (sym c.in-Some.ensures)

pub returns-in_ok-number-in-None-clause-some : goal.returns-in_ok-number-in-None-clause-some
returns-in_ok-number-in-None-clause-some c =
    let w = c.in_ok-name-in-None.ensures.some in
    coref_filler (names_seen c.number.new.names) (term_of c.args.value.now) c.in_ok-name-in-None.name.now w.0 c.in_ok-number-in-None.field-0 w.1 c.in_ok-number-in-None.ensures.number

pub returns-in_ok-number-in-None-clause-form : goal.returns-in_ok-number-in-None-clause-form
returns-in_ok-number-in-None-clause-form c = let w = c.in_ok-name-in-None.ensures.some in coref_value (term_of c.args.value.now) c.in_ok-name-in-None.name.now w.0 w.1 w.2
