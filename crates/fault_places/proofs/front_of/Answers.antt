use Rattle.std.proofs.Common.{sym}
use Rattle.fault_places.proofs.LineLemmas.{take_all}
use Rattle.fault_places.proofs.front_of.Goals as goal

pub returns-then-at-text : goal.returns-then-at-text
returns-then-at-text c = sym (take_all c.args.at c.args.text.now c.if-at-text.true)
