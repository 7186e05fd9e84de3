use Rattle.lexical_items.specs.Inner.Feeding.{IsHarmless}
use Rattle.lexical_items.proofs.feeding.feeds_of.Given as goal

abbrev pub invariant-loop-inner : goal.invariant-loop-inner
invariant-loop-inner g l = IsHarmless (g.F.LexicalFulls.signs l.fulls) (g.F.LexicalFulls.rules_of l.fulls) l.feeds
