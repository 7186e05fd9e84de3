use Rattle.std.proofs.Common.{subst}
use Rattle.tdl_reader.specs.Views.{statement_of}
use Rattle.transfer_rules.specs.declared.fault.Refusal.TheVariants.{Form}
use Rattle.transfer_rules.specs.Forms.{HaveForms}
use Rattle.transfer_rules.specs.Inner.Views.{parts_of}
use Rattle.transfer_rules.proofs.One.{one_parts}
use Rattle.transfer_rules.proofs.Refusing.{err_is}
use Rattle.transfer_rules.proofs.reading.Reading.rule.Goals as goal

pub returns-in_err-parts-clause-none : goal.returns-in_err-parts-clause-none
returns-in_err-parts-clause-none c = λ e r h. c.in_err-parts.ensures.none (err_is c.from_residual.result c.in_err-parts.field-0.0 Form c.from_residual.ensures.1 e) h.parts h.has

pub returns-clause-none : goal.returns-clause-none
returns-clause-none c = λ e r h. c.rule.ensures.none e (subst HaveForms (one_parts (statement_of c.args.statement.now) h.parts (parts_of c.in_ok-parts.parts) h.has c.in_ok-parts.ensures.some) h.forms)
