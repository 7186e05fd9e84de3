use Rattle.std.proofs.Common.{arith, map, subst}
use Rattle.tdl_reader.specs.Views.{statement_of}
use Rattle.transfer_model.specs.Views.{rule_of}
use Rattle.transfer_rules.specs.Forms.{IsFirstOutside, place_of}
use Rattle.transfer_rules.proofs.Refusing.{fault_form, outside, rules_more, refused}
use Rattle.transfer_rules.proofs.reading.rules_of.Goals as goal

pub returns-in-Err-clause-form : goal.returns-in-Err-clause-form
returns-in-Err-clause-form c = λ at e.
    let ss = c.args.statements.now in
    let s = c.statement-item.result in
    let w = fault_form (place_of (statement_of s)) at c.in-Err.refusal c.fault_at.result c.fault_at.ensures e in
    subst (IsFirstOutside (map statement_of ss)) w.1
    (outside ss c.loop-statement.statement-index s (omega arith) c.statement-item.is (map rule_of c.loop-statement.reading.rules.items) c.loop-statement.invariant.rules (c.in-Err.ensures.none (refused c.in-Err.refusal w.0)))

pub loop-statement-preserved : goal.loop-statement-preserved
loop-statement-preserved c =
    let ss = c.args.statements.now in
    let s = c.statement-item.result in
    let w = c.in-Ok.ensures.some in record {
      rules = rules_more ss c.loop-statement.statement-index s (omega arith) c.statement-item.is (map rule_of c.loop-statement.reading.rules.items) c.loop-statement.invariant.rules (map rule_of c.take.new.self.rules.items) w.0 w.1 w.2 w.3;
      read = c.in-Ok.ensures.read;
    }
