use Rattle.std.proofs.Common.{Vec, Global, ap}
use Rattle.tdl_reader.specs.Views.{statement_of}
use Rattle.transfer_model.specs.declared.Rule.{Rule as DeclaredRule}
use Rattle.transfer_rules.specs.declared.fault.Refusal.TheVariants.{Form}
use Rattle.transfer_rules.proofs.Refusing.{err_is, took}
use Rattle.transfer_rules.proofs.reading.Reading.take.Goals as goal

pub returns-in_err-rule-clause-none : goal.returns-in_err-rule-clause-none
returns-in_err-rule-clause-none c = λ e r h. absurd (c.in_err-rule.ensures.none (err_is c.from_residual.result c.in_err-rule.field-0.0 Form c.from_residual.ensures.1 e) r h)

pub returns-clause-some : goal.returns-clause-some
returns-clause-some c =
    took c.add.result (statement_of c.args.statement.now) c.args.self.now.rules.items c.rule.new.self.rules.items c.add.new.self.rules.items c.in_ok-rule.rule (ap (λ (v : Vec DeclaredRule Global). v.items) c.rule.ensures.same)
    c.in_ok-rule.ensures.some c.add.ensures.some c.add.ensures.apart
