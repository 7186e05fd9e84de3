use Rattle.std.proofs.Common.{◌+◌, [], ◌∷◌, map, take, string_bytes, refl, sym, subst, ap, ◌∙◌}
use Rattle.std.proofs.lemmas.List.{map-append}
use Rattle.lexicon.specs.Words.{Has, Rises}
use Rattle.morph_analysis.proofs.Lists.{map_take_next, all_taken, Has-at}
use Rattle.lexical_items.specs.Inner.Keyed.{Adds}
use Rattle.lexical_items.specs.Inner.Routes.{IsTree, IsOfRoute, route_seen}
use Rattle.lexical_items.specs.InflectedViews.{tree_seen}
use Rattle.lexical_items.proofs.RouteTrees.{new_end, ends_start, ends_next}
use Rattle.lexical_items.proofs.grown.add_trees.Goals as goal

pub loop-end-init : goal.loop-end-init
loop-end-init g c =
    let fulls = c.args.grammar.now.fulls.now in
    ends_start c.args.grammar.now.lexicon.now c.args.grammar.now.spelling.now (g.F.LexicalFulls.signs fulls) (g.F.LexicalFulls.entries_of fulls) (g.F.LexicalFulls.rules_of fulls) c.requires.grammar.numbered c.laws.ensures.entry_places c.laws.ensures.rule_places
    (route_seen (g.F.LexicalFulls.value fulls) c.args.route.now) (map (tree_seen (g.F.LexicalFulls.value fulls)) c.args.out.now.items)

pub tree_of-requires-clause-end : goal.tree_of-requires-clause-end
tree_of-requires-clause-end g c =
    subst (λ l. Has (string_bytes c.end-item.result) (map string_bytes l)) c.deref-end-items.ensures.value
    (Has-at string_bytes c.deref-end-items.result.now c.loop-end.end-index c.end-item.result (string_bytes c.end-item.result) c.loop-end-test.true c.end-item.is refl)

pub loop-end-preserved : goal.loop-end-preserved
loop-end-preserved g c =
    let fulls = c.args.grammar.now.fulls.now in
    let seen = tree_seen (g.F.LexicalFulls.value fulls) in
    let items = c.deref-end-items.result.now in
    let i = c.loop-end.end-index in
    ends_next c.args.grammar.now.lexicon.now c.args.grammar.now.spelling.now (g.F.LexicalFulls.signs fulls) (g.F.LexicalFulls.entries_of fulls) (g.F.LexicalFulls.rules_of fulls) c.requires.grammar.numbered c.laws.ensures.entry_places c.laws.ensures.rule_places
    (route_seen (g.F.LexicalFulls.value fulls) c.args.route.now) (map string_bytes (take i items)) (map string_bytes (take (i + 1) items)) (string_bytes c.end-item.result) (seen c.in_ok-tree_of.field-0) (map seen c.args.out.now.items) (map seen c.loop-end.out.items) (map seen c.push.new.self.items)
    (map_take_next string_bytes items i c.end-item.result c.loop-end-test.true c.end-item.is)
    (new_end string_bytes items i c.end-item.result c.loop-end-test.true c.end-item.is (subst (λ l. Rises (map string_bytes l)) (sym c.deref-end-items.ensures.value) c.requires.route.rises))
    c.in_ok-tree_of.ensures (ap (map seen) c.in_ok-push.ensures.items ∙ map-append seen c.loop-end.out.items (c.in_ok-tree_of.field-0 ∷ [])) c.loop-end.invariant

pub returns : goal.returns
returns g c =
    let fulls = c.args.grammar.now.fulls.now in
    let seen = tree_seen (g.F.LexicalFulls.value fulls) in
    subst (λ l. Adds (IsTree c.args.grammar.now.lexicon.now c.args.grammar.now.spelling.now (g.F.LexicalFulls.signs fulls) (g.F.LexicalFulls.entries_of fulls) (g.F.LexicalFulls.rules_of fulls))
    (IsOfRoute c.args.grammar.now.lexicon.now c.args.grammar.now.spelling.now (g.F.LexicalFulls.signs fulls) (g.F.LexicalFulls.entries_of fulls) (g.F.LexicalFulls.rules_of fulls) (route_seen (g.F.LexicalFulls.value fulls) c.args.route.now) (map string_bytes l))
    (map seen c.args.out.now.items) (map seen c.loop-end.out.items))
    (all_taken c.deref-end-items.result.now c.loop-end.end-index c.loop-end-test.false ∙ c.deref-end-items.ensures.value) c.loop-end.invariant
