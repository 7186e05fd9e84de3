use Rattle.std.proofs.Common.{◌+◌, map, take, subst}
use Rattle.morph_analysis.proofs.Lists.{map_take_next, all_taken}
use Rattle.lexical_items.specs.Inner.Routes.{IsOver, AreRoutes, route_seen}
use Rattle.lexical_items.proofs.Keys.{taken_at, item_at}
use Rattle.lexical_items.proofs.Levels.{over_next, over_whole, own_at}
use Rattle.lexical_items.proofs.routes.next_routes.Goals as goal

pub add_longer-requires-clause-route : goal.add_longer-requires-clause-route
add_longer-requires-clause-route g c =
    let fulls = c.args.grammar.now.fulls.now in
    let seen = route_seen (g.F.LexicalFulls.value fulls) in
    own_at c.args.grammar.now.lexicon.now c.args.grammar.now.spelling.now (g.F.LexicalFulls.signs fulls) (g.F.LexicalFulls.entries_of fulls) (g.F.LexicalFulls.rules_of fulls) c.requires.grammar.numbered c.requires.level.0 (map seen c.args.level.now) c.loop-route.route-index (seen c.route-item.result) c.requires.level.1
    (item_at seen c.args.level.now c.loop-route.route-index c.route-item.result c.loop-route-test.true c.route-item.is)

pub loop-route-preserved : goal.loop-route-preserved
loop-route-preserved g c =
    let fulls = c.args.grammar.now.fulls.now in
    let seen = route_seen (g.F.LexicalFulls.value fulls) in
    let level = c.args.level.now in
    let i = c.loop-route.route-index in
    over_next c.args.grammar.now.lexicon.now c.args.grammar.now.spelling.now (g.F.LexicalFulls.signs fulls) (g.F.LexicalFulls.entries_of fulls) (g.F.LexicalFulls.rules_of fulls) c.requires.grammar.numbered c.requires.level.0 (map seen level) (map seen (take i level)) (map seen (take (i + 1) level)) i (seen c.route-item.result) c.args.count
    (map seen c.loop-route.out.items) (map seen c.add_longer.new.out.items) c.requires.level.1 (map_take_next seen level i c.route-item.result c.loop-route-test.true c.route-item.is) (item_at seen level i c.route-item.result c.loop-route-test.true c.route-item.is) (λ x h. taken_at seen level i x h)
    c.loop-route.invariant c.in_ok-add_longer.ensures

pub returns : goal.returns
returns g c = λ depth are.
    let fulls = c.args.grammar.now.fulls.now in
    let seen = route_seen (g.F.LexicalFulls.value fulls) in
    over_whole c.args.grammar.now.lexicon.now c.args.grammar.now.spelling.now (g.F.LexicalFulls.signs fulls) (g.F.LexicalFulls.entries_of fulls) (g.F.LexicalFulls.rules_of fulls) c.requires.grammar.numbered c.laws.ensures.order depth (map seen c.args.level.now) c.args.count (map seen c.loop-route.out.items) c.requires.count are
    (subst (λ l. AreRoutes c.args.grammar.now.lexicon.now c.args.grammar.now.spelling.now (g.F.LexicalFulls.signs fulls) (g.F.LexicalFulls.entries_of fulls) (g.F.LexicalFulls.rules_of fulls) (IsOver c.args.grammar.now.lexicon.now c.args.grammar.now.spelling.now (g.F.LexicalFulls.signs fulls) (g.F.LexicalFulls.entries_of fulls) (g.F.LexicalFulls.rules_of fulls) (map seen l) c.args.count) (map seen c.loop-route.out.items))
    (all_taken c.args.level.now c.loop-route.route-index c.loop-route-test.false) c.loop-route.invariant)
