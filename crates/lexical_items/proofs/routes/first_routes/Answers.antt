use Rattle.std.proofs.Common.{map, arith, ap}
use Rattle.lexical_items.specs.Inner.Routes.{route_seen}
use Rattle.lexical_items.proofs.Levels.{firsts_start, firsts_next, firsts_whole}
use Rattle.lexical_items.proofs.routes.first_routes.Goals as goal

pub loop-entry-init : goal.loop-entry-init
loop-entry-init g c =
    let fulls = c.args.grammar.now.fulls.now in
    firsts_start c.args.grammar.now.lexicon.now c.args.grammar.now.spelling.now (g.F.LexicalFulls.signs fulls) (g.F.LexicalFulls.entries_of fulls) (g.F.LexicalFulls.rules_of fulls) c.requires.grammar.numbered (map (route_seen (g.F.LexicalFulls.value fulls)) c.new-routes.result.items) (ap (map (route_seen (g.F.LexicalFulls.value fulls))) c.new-routes.ensures.items)

pub loop-entry-preserved : goal.loop-entry-preserved
loop-entry-preserved g c =
    let fulls = c.args.grammar.now.fulls.now in
    firsts_next c.args.grammar.now.lexicon.now c.args.grammar.now.spelling.now (g.F.LexicalFulls.signs fulls) (g.F.LexicalFulls.entries_of fulls) (g.F.LexicalFulls.rules_of fulls) c.requires.grammar.numbered (g.F.LexicalFulls.value fulls) c.loop-entry.entry c.in_ok-route.route c.loop-entry.routes.items c.add.new.out.items
    c.in_ok-add.ensures c.in_ok-route.ensures c.loop-entry.invariant

pub returns : goal.returns
returns g c =
    let fulls = c.args.grammar.now.fulls.now in
    firsts_whole c.args.grammar.now.lexicon.now c.args.grammar.now.spelling.now (g.F.LexicalFulls.signs fulls) (g.F.LexicalFulls.entries_of fulls) (g.F.LexicalFulls.rules_of fulls) c.requires.grammar.numbered c.loop-entry.entry (map (route_seen (g.F.LexicalFulls.value fulls)) c.loop-entry.routes.items)
    (grind arith) c.loop-entry.invariant
