use Rattle.std.proofs.Common.{map}
use Rattle.lexical_items.specs.Inner.Keyed.{Adds}
use Rattle.lexical_items.specs.Inner.Routes.{IsRoute, IsAbove, route_seen}
use Rattle.lexical_items.proofs.routes.add_longer.Given as goal

abbrev pub invariant-loop-rule : goal.invariant-loop-rule
invariant-loop-rule g l =
    Adds (IsRoute l.grammar.lexicon.now l.grammar.spelling.now (g.F.LexicalFulls.signs l.grammar.fulls.now) (g.F.LexicalFulls.entries_of l.grammar.fulls.now) (g.F.LexicalFulls.rules_of l.grammar.fulls.now))
    (IsAbove l.grammar.lexicon.now l.grammar.spelling.now (g.F.LexicalFulls.signs l.grammar.fulls.now) (g.F.LexicalFulls.entries_of l.grammar.fulls.now) (g.F.LexicalFulls.rules_of l.grammar.fulls.now) (route_seen (g.F.LexicalFulls.value l.grammar.fulls.now) l.route) l.rule)
    (map (route_seen (g.F.LexicalFulls.value l.grammar.fulls.now)) l.initial.out.items) (map (route_seen (g.F.LexicalFulls.value l.grammar.fulls.now)) l.out.items)
