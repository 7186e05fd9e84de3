use Rattle.std.proofs.Common.{◌∙◌, arith}
use Rattle.relation_fit.proofs.Beginnings.{shorter, differs}
use Rattle.relation_fit.proofs.names.begins_as.Goals as goal

pub returns-then-name-pred : goal.returns-then-name-pred
returns-then-name-pred c = λ e h. shorter c.args.name.now c.args.pred.now (omega arith) h

pub returns-then-to_ascii_lowercase-pred : goal.returns-then-to_ascii_lowercase-pred
returns-then-to_ascii_lowercase-pred c = λ e h.
    differs c.args.name.now c.args.pred.now c.loop-k.k 0 0 (omega (arith, c.loop-k-test.true, c.if-name-pred.false)) c.loop-k-test.true
    (λ q. c.if-to_ascii_lowercase-pred.true (c.to_ascii_lowercase.ensures.value ∙ q)) h
