use Rattle.std.proofs.Common.{◌∙◌, sym}
use Rattle.transfer_rules.proofs.Refusing.{stands, apart, one_more, not_false, not_true}
use Rattle.transfer_rules.proofs.reading.Reading.add.Goals as goal

pub returns-then-not-is_new-clause-none : goal.returns-then-not-is_new-clause-none
returns-then-not-is_new-clause-none c = λ _.
    stands c.args.self.now.names.keys c.args.self.now.rules.items c.args.rule c.in_ok-clone.field-0 c.requires.read c.in_ok-clone.ensures.cases (not_false _ (sym c.in_ok-is_new.ensures.added ∙ c.if-not-is_new.true))

pub returns-clause-read : goal.returns-clause-read
returns-clause-read c =
    one_more c.args.self.now.names.keys c.args.self.now.rules.items c.args.rule c.in_ok-clone.field-0 c.requires.read c.in_ok-clone.ensures.cases (not_true _ (sym c.in_ok-is_new.ensures.added ∙ c.if-not-is_new.false))
    c.insert_full.new.self.keys c.in_ok-is_new.ensures.keys c.push.new.self.items c.in_ok-push.ensures.items c.requires.held

pub returns-clause-apart : goal.returns-clause-apart
returns-clause-apart c =
    apart c.args.self.now.names.keys c.args.self.now.rules.items c.args.rule c.in_ok-clone.field-0 c.requires.read c.in_ok-clone.ensures.cases (not_true _ (sym c.in_ok-is_new.ensures.added ∙ c.if-not-is_new.false))
