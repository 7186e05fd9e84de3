use Rattle.std.proofs.Common.{map, take}
use Rattle.lexical_items.specs.Inner.Keyed.{AreOf}
use Rattle.lexical_items.specs.Inner.Routes.{IsTree, IsOfRoutes, route_seen}
use Rattle.lexical_items.specs.InflectedViews.{tree_seen}
use Rattle.lexical_items.proofs.grown.trees_of.Given as goal

abbrev pub invariant-loop-route : goal.invariant-loop-route
invariant-loop-route g l =
    AreOf (IsTree l.grammar.lexicon.now l.grammar.spelling.now (g.F.LexicalFulls.signs l.grammar.fulls.now) (g.F.LexicalFulls.entries_of l.grammar.fulls.now) (g.F.LexicalFulls.rules_of l.grammar.fulls.now))
    (IsOfRoutes l.grammar.lexicon.now l.grammar.spelling.now (g.F.LexicalFulls.signs l.grammar.fulls.now) (g.F.LexicalFulls.entries_of l.grammar.fulls.now) (g.F.LexicalFulls.rules_of l.grammar.fulls.now) (map (route_seen (g.F.LexicalFulls.value l.grammar.fulls.now)) (take l.route-index l.routes)))
    (map (tree_seen (g.F.LexicalFulls.value l.grammar.fulls.now)) l.out.items)
