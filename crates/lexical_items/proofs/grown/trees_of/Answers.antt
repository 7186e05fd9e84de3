use Rattle.std.proofs.Common.{◌+◌, map, take, subst}
use Rattle.morph_analysis.proofs.Lists.{map_take_next, all_taken}
use Rattle.lexical_items.specs.Inner.Keyed.{AreOf}
use Rattle.lexical_items.specs.Inner.Routes.{IsTree, IsOfRoutes, IsBelow, route_seen}
use Rattle.lexical_items.specs.InflectedViews.{tree_seen}
use Rattle.lexical_items.proofs.Keys.{taken_at, item_at}
use Rattle.lexical_items.proofs.RouteTrees.{routes_next, own_route, whole}
use Rattle.lexical_items.proofs.grown.trees_of.Goals as goal

pub add_trees-requires-clause-route : goal.add_trees-requires-clause-route
add_trees-requires-clause-route g c =
    let fulls = c.args.grammar.now.fulls.now in
    let seen = route_seen (g.F.LexicalFulls.value fulls) in
    own_route c.args.grammar.now.lexicon.now c.args.grammar.now.spelling.now (g.F.LexicalFulls.signs fulls) (g.F.LexicalFulls.entries_of fulls) (g.F.LexicalFulls.rules_of fulls) c.requires.grammar.numbered
    (IsBelow c.args.grammar.now.lexicon.now c.args.grammar.now.spelling.now (g.F.LexicalFulls.signs fulls) (g.F.LexicalFulls.entries_of fulls) (g.F.LexicalFulls.rules_of fulls) (c.requires.routes.0 + 1)) (map seen c.args.routes.now) c.loop-route.route-index (seen c.route-item.result) c.requires.routes.1
    (item_at seen c.args.routes.now c.loop-route.route-index c.route-item.result c.loop-route-test.true c.route-item.is)

pub loop-route-preserved : goal.loop-route-preserved
loop-route-preserved g c =
    let fulls = c.args.grammar.now.fulls.now in
    let seen = route_seen (g.F.LexicalFulls.value fulls) in
    let shown = tree_seen (g.F.LexicalFulls.value fulls) in
    let routes = c.args.routes.now in
    let i = c.loop-route.route-index in
    routes_next c.args.grammar.now.lexicon.now c.args.grammar.now.spelling.now (g.F.LexicalFulls.signs fulls) (g.F.LexicalFulls.entries_of fulls) (g.F.LexicalFulls.rules_of fulls) c.requires.grammar.numbered c.laws.ensures.entry_places c.laws.ensures.rule_places
    (IsBelow c.args.grammar.now.lexicon.now c.args.grammar.now.spelling.now (g.F.LexicalFulls.signs fulls) (g.F.LexicalFulls.entries_of fulls) (g.F.LexicalFulls.rules_of fulls) (c.requires.routes.0 + 1)) (map seen routes) (map seen (take i routes)) (map seen (take (i + 1) routes)) i (seen c.route-item.result)
    (map shown c.loop-route.out.items) (map shown c.add_trees.new.out.items) c.requires.routes.1 (map_take_next seen routes i c.route-item.result c.loop-route-test.true c.route-item.is) (item_at seen routes i c.route-item.result c.loop-route-test.true c.route-item.is) (λ x h. taken_at seen routes i x h)
    c.loop-route.invariant c.in_ok-add_trees.ensures

pub returns : goal.returns
returns g c = λ most are.
    let fulls = c.args.grammar.now.fulls.now in
    let seen = route_seen (g.F.LexicalFulls.value fulls) in
    let shown = tree_seen (g.F.LexicalFulls.value fulls) in
    whole c.args.grammar.now.lexicon.now c.args.grammar.now.spelling.now (g.F.LexicalFulls.signs fulls) (g.F.LexicalFulls.entries_of fulls) (g.F.LexicalFulls.rules_of fulls) c.requires.grammar.numbered c.laws.ensures.entry_places c.laws.ensures.rule_places most (map seen c.args.routes.now) are (map shown c.loop-route.out.items)
    (subst (λ l. AreOf (IsTree c.args.grammar.now.lexicon.now c.args.grammar.now.spelling.now (g.F.LexicalFulls.signs fulls) (g.F.LexicalFulls.entries_of fulls) (g.F.LexicalFulls.rules_of fulls))
    (IsOfRoutes c.args.grammar.now.lexicon.now c.args.grammar.now.spelling.now (g.F.LexicalFulls.signs fulls) (g.F.LexicalFulls.entries_of fulls) (g.F.LexicalFulls.rules_of fulls) (map seen l)) (map shown c.loop-route.out.items))
    (all_taken c.args.routes.now c.loop-route.route-index c.loop-route-test.false) c.loop-route.invariant)
