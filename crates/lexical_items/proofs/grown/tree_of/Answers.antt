use Rattle.std.proofs.Common.{rules, ◌≡◌, ◌<◌, ◌++◌, [], ◌∷◌, None, sym, subst, ◌∙◌, ap, map, length, string_bytes}
use Rattle.std.specs.Prelude.{All}
use Rattle.std.proofs.lemmas.List.{map-append}
use Rattle.std.specs.Arc.{arc_value}
use Rattle.derivation.specs.Trees.{lexical}
use Rattle.lexical_items.specs.Places.{place_in}
use Rattle.lexical_items.specs.Inner.Routes.{route_seen, key_of}
use Rattle.lexical_items.proofs.Chains.{has_number, route_chain, rules_in}
use Rattle.lexical_items.proofs.RouteTrees.{tree_is}
use Rattle.lexical_items.proofs.grown.tree_of.Goals as goal

pub places_of-requires : goal.places_of-requires
places_of-requires g c =
    let fulls = c.args.grammar.now.fulls.now in
    let seen = route_seen (g.F.LexicalFulls.value fulls) c.args.route.now in
    let inside = rules_in c.args.grammar.now.lexicon.now c.args.grammar.now.spelling.now (g.F.LexicalFulls.signs fulls) (g.F.LexicalFulls.entries_of fulls) (g.F.LexicalFulls.rules_of fulls) c.requires.grammar.numbered (key_of seen)
    (route_chain c.args.grammar.now.lexicon.now c.args.grammar.now.spelling.now (g.F.LexicalFulls.signs fulls) (g.F.LexicalFulls.entries_of fulls) (g.F.LexicalFulls.rules_of fulls) c.requires.grammar.numbered (key_of seen) seen c.requires.route) in
    subst (λ n. All (λ r. r < n) c.deref.result.now) (sym (ap length c.rules.ensures)) (subst (λ l. All (λ r. r < length (g.F.LexicalFulls.rules_of fulls)) l) (sym c.deref.ensures.value) inside)

pub front_words-requires-clause-number : goal.front_words-requires-clause-number
front_words-requires-clause-number g c =
    let fulls = c.args.grammar.now.fulls.now in
    has_number c.args.grammar.now.lexicon.now c.args.grammar.now.spelling.now (g.F.LexicalFulls.signs fulls) (g.F.LexicalFulls.entries_of fulls) (g.F.LexicalFulls.rules_of fulls) c.requires.grammar.numbered c.args.route.now.entry c.requires.route.entry_in

pub returns : goal.returns
returns g c =
    let fulls = c.args.grammar.now.fulls.now in
    let rs = g.F.LexicalFulls.rules_of fulls in
    let front = map string_bytes c.in_ok-said.said.items in
    let said : map string_bytes c.push.new.self.items ≡ front ++ string_bytes c.args.end.now ∷ [] =
    ap (map string_bytes) c.in_ok-push.ensures.items ∙ map-append string_bytes c.in_ok-said.said.items (c.in_ok-clone.field-0 ∷ []) ∙ ap (λ w. front ++ w ∷ []) c.in_ok-clone.ensures.cases in
    let shared : arc_value c.in_ok-full.full ≡ arc_value c.args.route.now.full = search rules in
    tree_is c.args.grammar.now.lexicon.now c.args.grammar.now.spelling.now (g.F.LexicalFulls.signs fulls) (g.F.LexicalFulls.entries_of fulls) rs c.requires.grammar.numbered (route_seen (g.F.LexicalFulls.value fulls) c.args.route.now) (string_bytes c.args.end.now) front c.in_ok-said.ensures.0 c.place_of-place.result c.in_ok-places.places.items _
    c.requires.route c.requires.end c.in_ok-said.ensures.1 (c.place_of-place.ensures ∙ ap (λ l. place_in l c.args.route.now.entry) c.entries.ensures)
    (c.in_ok-places.ensures ∙ ap (λ l. map (place_in l) c.deref.result.now) c.rules.ensures ∙ ap (map (place_in rs)) c.deref.ensures.value) (c.in_ok-tree.ensures.is ∙ (λ i. lexical c.place_of-place.result c.in_ok-places.places.items (said i) None)) (ap (g.F.LexicalFulls.value fulls) shared)
