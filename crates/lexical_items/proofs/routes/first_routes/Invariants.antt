use Rattle.std.proofs.Common.{map}
use Rattle.lexical_items.specs.Inner.Routes.{IsFirst, AreRoutes, route_seen}
use Rattle.lexical_items.proofs.routes.first_routes.Given as goal

abbrev pub invariant-loop-entry : goal.invariant-loop-entry
invariant-loop-entry g l =
    AreRoutes l.grammar.lexicon.now l.grammar.spelling.now (g.F.LexicalFulls.signs l.grammar.fulls.now) (g.F.LexicalFulls.entries_of l.grammar.fulls.now) (g.F.LexicalFulls.rules_of l.grammar.fulls.now)
    (IsFirst l.grammar.lexicon.now l.grammar.spelling.now (g.F.LexicalFulls.signs l.grammar.fulls.now) (g.F.LexicalFulls.entries_of l.grammar.fulls.now) (g.F.LexicalFulls.rules_of l.grammar.fulls.now) l.entry) (map (route_seen (g.F.LexicalFulls.value l.grammar.fulls.now)) l.routes.items)
