use Rattle.lexical_items.proofs.Harmless.{forbids_none}
use Rattle.lexical_items.proofs.feeding.feeds_of.Goals as goal

pub returns : goal.returns
returns g c = forbids_none (g.F.LexicalFulls.signs c.args.fulls.now) (g.F.LexicalFulls.rules_of c.args.fulls.now) c.loop-inner.feeds c.loop-inner.invariant (g.F.LexicalFulls.entries_of c.args.fulls.now)
