use Rattle.std.proofs.Common.{ap, map, subst, Err}
use Rattle.std.specs.Prelude.{false, not, slice_index_or}
use Rattle.tdl_reader.specs.Views.{statement_of}
use Rattle.transfer_rules.specs.Forms.{IsFirstOutside}
use Rattle.transfer_commands.proofs.Exits.{out-of-form}
use Rattle.transfer_commands.proofs.loading.transferrer_of.Goals as goal

-- what the guard decides is whether the rule isn't skipped
pub new-guard-requires : goal.new-guard-requires
new-guard-requires g c = record { stated = (λ rule site. not (slice_index_or c.in-Ok-skipped_rules.skipped.items rule false), λ rule site yes e. e) }

pub returns-in-Err-Form-clause-fault : goal.returns-in-Err-Form-clause-fault
returns-in-Err-Form-clause-fault g c =
    let at = c.in-Err-Form.at in
    let first = subst (λ ss. IsFirstOutside (map statement_of ss) at) c.deref.ensures.value (c.in-Err-Form.ensures.form at (ap Err c.in-Err-Form.field-0-is)) in
    out-of-form (g.S.Shelf.files c.args.shelf.now) c.args.command.now.verbose c.args.command.now.rules.now (map statement_of c.args.said.now.statements.items) at first c.form_told.result c.form_told.ensures
