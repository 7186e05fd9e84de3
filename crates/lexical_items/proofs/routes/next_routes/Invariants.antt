use Rattle.std.proofs.Common.{map, take}
use Rattle.lexical_items.specs.Inner.Routes.{IsOver, AreRoutes, route_seen}
use Rattle.lexical_items.proofs.routes.next_routes.Given as goal

abbrev pub invariant-loop-route : goal.invariant-loop-route
invariant-loop-route g l =
    AreRoutes l.grammar.lexicon.now l.grammar.spelling.now (g.F.LexicalFulls.signs l.grammar.fulls.now) (g.F.LexicalFulls.entries_of l.grammar.fulls.now) (g.F.LexicalFulls.rules_of l.grammar.fulls.now)
    (IsOver l.grammar.lexicon.now l.grammar.spelling.now (g.F.LexicalFulls.signs l.grammar.fulls.now) (g.F.LexicalFulls.entries_of l.grammar.fulls.now) (g.F.LexicalFulls.rules_of l.grammar.fulls.now) (map (route_seen (g.F.LexicalFulls.value l.grammar.fulls.now)) (take l.route-index l.level)) l.count)
    (map (route_seen (g.F.LexicalFulls.value l.grammar.fulls.now)) l.out.items)
