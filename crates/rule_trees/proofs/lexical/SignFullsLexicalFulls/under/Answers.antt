use Rattle.std.proofs.Common.{◌∙◌, ap, sym, subst, [], ◌∷◌}
use Rattle.std.specs.Prelude.{All}
use Rattle.std.proofs.lemmas.List.Elements.{All-nil, All-cons}
use Rattle.book_signs.specs.Trees.{signs_of, lexical_rules_of}
use Rattle.rule_trees.specs.Mothers.{graph_view, view_in, IsMother, IsShortIn}
use Rattle.rule_trees.specs.Inner.Owing.{OwesDaughters}
use Rattle.rule_trees.proofs.PlaceLemmas.{has_at, one_daughter}
use Rattle.rule_trees.proofs.LexicalLemmas.{under_full, under_back}
use Rattle.rule_trees.proofs.OweLemmas.{full_owes, one_owes, lexical_made}
use Rattle.rule_trees.proofs.WithinLemmas.{mother_told, no_mother}
use Rattle.rule_trees.proofs.lexical.SignFullsLexicalFulls.under.Goals as goal

pub laws-requires-2 : goal.laws-requires-2
laws-requires-2 c = lexical_made (signs_of c.args.self.now.signs.now) (view_in c.args.self.now.signs.now c.args.full.now.graph) c.requires.lexical

pub made-requires-clause-rule : goal.made-requires-clause-rule
made-requires-clause-rule c =
    let g = signs_of c.args.self.now.signs.now in
    one_daughter g c.args.place c.laws.ensures.arities (has_at (lexical_rules_of g) c.requires.place.0 c.args.place c.requires.place.1)

pub made-requires-clause-short : goal.made-requires-clause-short
made-requires-clause-short c =
    let t = c.args.self.now.signs.now in
    let x = c.args.full.now.graph in
    subst (λ d. All (IsShortIn t) (d ∷ [])) (sym c.graph.ensures) (All-cons (IsShortIn t) x.plain [] c.laws-2.ensures.short (All-nil (IsShortIn t)))

pub made-requires-clause-owes : goal.made-requires-clause-owes
made-requires-clause-owes c =
    let t = c.args.self.now.signs.now in
    let x = c.args.full.now.graph in
    subst (λ d. All (OwesDaughters t) (d ∷ [])) (sym c.graph.ensures)
    (one_owes t x.plain (full_owes t x (lexical_made (signs_of t) (view_in t x) c.requires.lexical)))

pub returns-in_ok-full-in-Ok-Some : goal.returns-in_ok-full-in-Ok-Some
returns-in_ok-full-in-Ok-Some c =
    let t = c.args.self.now.signs.now in
    let g = signs_of t in
    let seen = ap (graph_view t) c.graph.ensures ∙ sym c.laws-2.ensures.seen in
    under_full t c.args.place (view_in t c.args.full.now.graph) (view_in t c.in_ok-full-in-Ok-Some.full.graph) c.laws.ensures.arities (has_at (lexical_rules_of g) c.requires.place.0 c.args.place c.requires.place.1)
    (subst (IsMother g c.args.place (view_in t c.args.full.now.graph ∷ [])) (sym c.in_ok-full-in-Ok-Some.ensures)
    (subst (λ f. IsMother g c.args.place (f ∷ []) (graph_view t c.in-Ok-Some.graph)) seen
    (mother_told t c.args.place (c.graph.result.now ∷ []) c.in-Ok-Some.field-0 c.in-Ok-Some.graph c.in-Ok-Some.field-0-is c.in-Ok-Some.ensures)))

pub returns-in-Ok-None : goal.returns-in-Ok-None
returns-in-Ok-None c f u =
    let t = c.args.self.now.signs.now in
    let seen = ap (graph_view t) c.graph.ensures ∙ sym c.laws-2.ensures.seen in
    no_mother t c.args.place (c.graph.result.now ∷ []) c.in-Ok-None.field-0 c.in-Ok-None.field-0-is c.in-Ok-None.ensures f
    (subst (λ d. IsMother (signs_of t) c.args.place (d ∷ []) f) (sym seen) (under_back t c.args.place (view_in t c.args.full.now.graph) f u))
