use Rattle.std.proofs.Common.{rules, ◌≡◌, ◌<◌, ◌++◌, [], ◌∷◌, refl, sym, subst, ◌∙◌, ap, arith, map, length, string_bytes}
use Rattle.std.proofs.lemmas.List.{length-map}
use Rattle.std.specs.Arc.{arc_value}
use Rattle.chart_model.specs.At.{At}
use Rattle.tree_model.specs.Structures.{Structure}
use Rattle.morph_analysis.specs.Allowed.{may_go_on}
use Rattle.tree_model.specs.Lexical.{IsUnderRule}
use Rattle.lexical_items.specs.Places.{place_in}
use Rattle.lexical_items.proofs.Treed.{placed}
use Rattle.lexical_items.specs.Inner.Routes.{AreFormsOf, route_seen}
use Rattle.lexical_items.proofs.Chains.{forbidden, no_forms, no_mother, longer, no_items}
use Rattle.lexical_items.proofs.routes.longer.Goals as goal

pub returns-then-not-allows_after : goal.returns-then-not-allows_after
returns-then-not-allows_after g c =
    let fulls = c.args.grammar.now.fulls.now in
    forbidden c.args.grammar.now.lexicon.now c.args.grammar.now.spelling.now (g.F.LexicalFulls.signs fulls) (g.F.LexicalFulls.entries_of fulls) (g.F.LexicalFulls.rules_of fulls) c.requires.grammar.numbered c.args.grammar.now.feeds.now c.requires.grammar.feeds (route_seen (g.F.LexicalFulls.value fulls) c.args.route.now) c.args.rule
    (ap (λ rs. may_go_on c.args.grammar.now.feeds.now c.args.route.now.entry rs c.args.rule) (sym c.deref.ensures.value) ∙ sym c.allows_after.ensures ∙ grind arith)

pub returns-then-is_empty : goal.returns-then-is_empty
returns-then-is_empty g c =
    let fulls = c.args.grammar.now.fulls.now in
    let none : length c.in_ok-ends.ends.items ≡ 0 = grind arith in
    no_forms c.args.grammar.now.lexicon.now c.args.grammar.now.spelling.now (g.F.LexicalFulls.signs fulls) (g.F.LexicalFulls.entries_of fulls) (g.F.LexicalFulls.rules_of fulls) c.requires.grammar.numbered (route_seen (g.F.LexicalFulls.value fulls) c.args.route.now) c.args.rule (map string_bytes c.in_ok-ends.ends.items) c.requires.route
    (subst (λ l. AreFormsOf c.args.grammar.now.spelling.now c.args.rule (map string_bytes l) (map string_bytes c.in_ok-ends.ends.items)) c.deref-2.ensures.value c.in_ok-ends.ensures) (ap (map string_bytes) (no_items c.in_ok-ends.ends.items none))

pub under-requires-clause-place : goal.under-requires-clause-place
under-requires-clause-place g c =
    let rs = g.F.LexicalFulls.rules_of c.args.grammar.now.fulls.now in
    (c.args.rule, subst (At rs c.args.rule) (sym (c.place_of-place.ensures ∙ ap (λ l. place_in l c.args.rule) c.rules.ensures)) (placed rs c.args.rule c.requires.rule))

pub returns-in-None : goal.returns-in-None
returns-in-None g c =
    let fulls = c.args.grammar.now.fulls.now in
    no_mother c.args.grammar.now.lexicon.now c.args.grammar.now.spelling.now (g.F.LexicalFulls.signs fulls) (g.F.LexicalFulls.entries_of fulls) (g.F.LexicalFulls.rules_of fulls) c.requires.grammar.numbered c.laws.ensures.order (route_seen (g.F.LexicalFulls.value fulls) c.args.route.now) c.args.rule c.place_of-place.result
    (c.place_of-place.ensures ∙ ap (λ l. place_in l c.args.rule) c.rules.ensures) c.requires.route
    (subst (λ t. (f : Structure) → IsUnderRule (g.F.LexicalFulls.signs fulls) c.place_of-place.result (g.F.LexicalFulls.value fulls t) f → ⊥) c.deref-3.ensures (rw c.in-None.is at c.in_ok-under.ensures))

pub returns-in_ok-full-in-Some : goal.returns-in_ok-full-in-Some
returns-in_ok-full-in-Some g c =
    let fulls = c.args.grammar.now.fulls.now in
    let shared : arc_value c.in_ok-full-in-Some.full ≡ c.in-Some.full = search rules in
    let some : 0 < length c.in_ok-ends.ends.items = grind arith in
    let long = length-map c.in_ok-ends.ends.items string_bytes in
    let listed : c.push.new.self.items ≡ c.args.route.now.rules.items ++ c.args.rule ∷ [] = search rules in
    longer c.args.grammar.now.lexicon.now c.args.grammar.now.spelling.now (g.F.LexicalFulls.signs fulls) (g.F.LexicalFulls.entries_of fulls) (g.F.LexicalFulls.rules_of fulls) c.requires.grammar.numbered (route_seen (g.F.LexicalFulls.value fulls) c.args.route.now) _ c.args.rule c.place_of-place.result c.requires.rule
    (c.place_of-place.ensures ∙ ap (λ l. place_in l c.args.rule) c.rules.ensures) c.requires.route
    (subst (λ l. AreFormsOf c.args.grammar.now.spelling.now c.args.rule (map string_bytes l) (map string_bytes c.in_ok-ends.ends.items)) c.deref-2.ensures.value c.in_ok-ends.ensures) (omega (arith, some, long))
    (subst (λ t. IsUnderRule (g.F.LexicalFulls.signs fulls) c.place_of-place.result (g.F.LexicalFulls.value fulls (arc_value c.args.route.now.full)) (g.F.LexicalFulls.value fulls t)) (sym shared)
    (subst (λ t. IsUnderRule (g.F.LexicalFulls.signs fulls) c.place_of-place.result (g.F.LexicalFulls.value fulls t) (g.F.LexicalFulls.value fulls c.in-Some.full)) c.deref-3.ensures (rw c.in-Some.is at c.in_ok-under.ensures))) refl listed
