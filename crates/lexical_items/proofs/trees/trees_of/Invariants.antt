use Rattle.std.proofs.Common.{map}
use Rattle.lexical_items.specs.Views.{lexeme_seen}
use Rattle.lexical_items.specs.Inner.Kept.{chain_in}
use Rattle.lexical_items.proofs.Kept.{IsKeptOf}
use Rattle.lexical_items.proofs.trees.trees_of.Given as goal

abbrev pub invariant-loop-one : goal.invariant-loop-one
invariant-loop-one g l =
    IsKeptOf (g.F.LexicalFulls.signs l.fulls) (g.F.LexicalFulls.entries_of l.fulls) (g.F.LexicalFulls.rules_of l.fulls) l.most (map chain_in l.yielded) (map (lexeme_seen (g.F.LexicalFulls.value l.fulls)) l.trees.items)
