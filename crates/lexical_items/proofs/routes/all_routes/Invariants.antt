use Rattle.std.proofs.Common.{map}
use Rattle.lexical_items.specs.Inner.Routes.{IsBelow, IsDeep, AreRoutes, route_seen}
use Rattle.lexical_items.proofs.routes.all_routes.Given as goal

abbrev pub invariant-loop-depth : goal.invariant-loop-depth
invariant-loop-depth g l = record {
  done : AreRoutes l.grammar.lexicon.now l.grammar.spelling.now (g.F.LexicalFulls.signs l.grammar.fulls.now) (g.F.LexicalFulls.entries_of l.grammar.fulls.now) (g.F.LexicalFulls.rules_of l.grammar.fulls.now)
      (IsBelow l.grammar.lexicon.now l.grammar.spelling.now (g.F.LexicalFulls.signs l.grammar.fulls.now) (g.F.LexicalFulls.entries_of l.grammar.fulls.now) (g.F.LexicalFulls.rules_of l.grammar.fulls.now) l._depth) (map (route_seen (g.F.LexicalFulls.value l.grammar.fulls.now)) l.routes.items);
  level : AreRoutes l.grammar.lexicon.now l.grammar.spelling.now (g.F.LexicalFulls.signs l.grammar.fulls.now) (g.F.LexicalFulls.entries_of l.grammar.fulls.now) (g.F.LexicalFulls.rules_of l.grammar.fulls.now)
      (IsDeep l.grammar.lexicon.now l.grammar.spelling.now (g.F.LexicalFulls.signs l.grammar.fulls.now) (g.F.LexicalFulls.entries_of l.grammar.fulls.now) (g.F.LexicalFulls.rules_of l.grammar.fulls.now) l._depth) (map (route_seen (g.F.LexicalFulls.value l.grammar.fulls.now)) l.level.items);
}
