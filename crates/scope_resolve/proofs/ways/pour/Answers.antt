use Rattle.std.proofs.Common.{arith}
use Rattle.scope_resolve.proofs.Seeing.{past_has}
use Rattle.scope_resolve.proofs.ways.pour.Goals as goal

pub returns-else-at-len-clause-added : goal.returns-else-at-len-clause-added
returns-else-at-len-clause-added c = λ place h. past_has c.args.sets.now.items c.args.number place (omega (arith, c.len.ensures, c.args.sets.now.ok, c.if-at-len.false))
