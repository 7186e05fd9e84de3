use Rattle.std.proofs.Common.{rules, refl, sym, subst, ◌∙◌, ap, ◌≡◌, ◌++◌, map, string_bytes, [], ◌∷◌}
use Rattle.std.specs.Arc.{arc_value}
use Rattle.chart_model.specs.At.{At}
use Rattle.tree_model.specs.Lexical.{IsEntry}
use Rattle.lexical_items.specs.Places.{place_in}
use Rattle.lexical_items.proofs.Treed.{placed}
use Rattle.lexical_items.proofs.Chains.{has_number, begun, not_begun}
use Rattle.lexical_items.proofs.routes.begun.Goals as goal

pub last_word-requires-clause-number : goal.last_word-requires-clause-number
last_word-requires-clause-number g c =
    let fulls = c.args.grammar.now.fulls.now in
    has_number c.args.grammar.now.lexicon.now c.args.grammar.now.spelling.now (g.F.LexicalFulls.signs fulls) (g.F.LexicalFulls.entries_of fulls) (g.F.LexicalFulls.rules_of fulls) c.requires.grammar.numbered c.args.entry c.requires.entry

pub entry-requires : goal.entry-requires
entry-requires g c =
    let entries = g.F.LexicalFulls.entries_of c.args.grammar.now.fulls.now in
    (c.args.entry, subst (At entries c.args.entry) (sym (c.place_of-place.ensures ∙ ap (λ l. place_in l c.args.entry) c.entries.ensures)) (placed entries c.args.entry c.requires.entry))

pub returns-in-None : goal.returns-in-None
returns-in-None g c =
    let fulls = c.args.grammar.now.fulls.now in
    not_begun c.args.grammar.now.lexicon.now c.args.grammar.now.spelling.now (g.F.LexicalFulls.signs fulls) (g.F.LexicalFulls.entries_of fulls) (g.F.LexicalFulls.rules_of fulls) c.requires.grammar.numbered c.args.entry c.place_of-place.result (c.place_of-place.ensures ∙ ap (λ l. place_in l c.args.entry) c.entries.ensures)
    (rw c.in-None.is at c.in_ok-entry.ensures)

pub returns-in_ok-full-in-Some : goal.returns-in_ok-full-in-Some
returns-in_ok-full-in-Some g c =
    let fulls = c.args.grammar.now.fulls.now in
    let shared : arc_value c.in_ok-full-in-Some.full ≡ c.in-Some.full = search rules in
    begun c.args.grammar.now.lexicon.now c.args.grammar.now.spelling.now (g.F.LexicalFulls.signs fulls) (g.F.LexicalFulls.entries_of fulls) (g.F.LexicalFulls.rules_of fulls) c.requires.grammar.numbered c.args.entry c.last_word.ensures.0 (string_bytes c.last_word.result.now) c.place_of-place.result _ c.requires.entry c.last_word.ensures.1
    (c.place_of-place.ensures ∙ ap (λ l. place_in l c.args.entry) c.entries.ensures) (subst (λ t. IsEntry (g.F.LexicalFulls.signs fulls) c.place_of-place.result (g.F.LexicalFulls.value fulls t)) (sym shared) (rw c.in-Some.is at c.in_ok-entry.ensures)) refl c.new-rules.ensures.items
    (ap (map string_bytes) (c.in_ok-push-in-Some.ensures.items ∙ ap (λ l. l ++ c.in_ok-stem.stem ∷ []) c.new-ends.ensures.items) ∙ ap (λ w. w ∷ []) c.in_ok-stem.ensures.cases)
