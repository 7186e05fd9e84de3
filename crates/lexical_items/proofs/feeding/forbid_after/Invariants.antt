use Rattle.lexical_items.specs.Inner.Feeding.{IsHarmless}
use Rattle.lexical_items.proofs.feeding.forbid_after.Given as goal

abbrev pub invariant-loop-outer : goal.invariant-loop-outer
invariant-loop-outer g l = IsHarmless (g.F.LexicalFulls.signs l.fulls) (g.F.LexicalFulls.rules_of l.fulls) l.feeds
