use Rattle.std.proofs.Common.{map, take, string_bytes}
use Rattle.lexical_items.specs.Inner.Keyed.{Adds}
use Rattle.lexical_items.specs.Inner.Routes.{IsTree, IsOfRoute, route_seen}
use Rattle.lexical_items.specs.InflectedViews.{tree_seen}
use Rattle.lexical_items.proofs.grown.add_trees.Given as goal

abbrev pub invariant-loop-end : goal.invariant-loop-end
invariant-loop-end g l =
    Adds (IsTree l.grammar.lexicon.now l.grammar.spelling.now (g.F.LexicalFulls.signs l.grammar.fulls.now) (g.F.LexicalFulls.entries_of l.grammar.fulls.now) (g.F.LexicalFulls.rules_of l.grammar.fulls.now))
    (IsOfRoute l.grammar.lexicon.now l.grammar.spelling.now (g.F.LexicalFulls.signs l.grammar.fulls.now) (g.F.LexicalFulls.entries_of l.grammar.fulls.now) (g.F.LexicalFulls.rules_of l.grammar.fulls.now) (route_seen (g.F.LexicalFulls.value l.grammar.fulls.now) l.route) (map string_bytes (take l.end-index l.end-items)))
    (map (tree_seen (g.F.LexicalFulls.value l.grammar.fulls.now)) l.initial.out.items) (map (tree_seen (g.F.LexicalFulls.value l.grammar.fulls.now)) l.out.items)
