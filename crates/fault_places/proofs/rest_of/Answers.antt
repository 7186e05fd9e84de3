use Rattle.std.proofs.Common.{sym}
use Rattle.fault_places.proofs.LineLemmas.{drop_all}
use Rattle.fault_places.proofs.rest_of.Goals as goal

pub returns-then-at-text : goal.returns-then-at-text
returns-then-at-text c = sym (drop_all c.args.at c.args.text.now c.if-at-text.true)
