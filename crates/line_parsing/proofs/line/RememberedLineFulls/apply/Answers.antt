use Rattle.std.proofs.Common.{All, map, sym, subst}
use Rattle.forest_unpack.specs.Parts.{parts_of}
use Rattle.book_signs.specs.Trees.{signs_of}
use Rattle.lexical_items.specs.Views.{lexeme_seen}
use Rattle.rule_trees.specs.Fulls.{FullTree}
use Rattle.rule_trees.specs.Mothers.{view_in, IsMade, HasDaughters}
use Rattle.rule_trees.proofs.OweLemmas.{parts_made}
use Rattle.grammar_rules.specs.Told.{all_seen, TellsMother}
use Rattle.line_parsing.proofs.Numbered.{daughters_at, by_number}
use Rattle.line_parsing.proofs.line.RememberedLineFulls.apply.Goals as goal

pub place-place-requires : goal.place-place-requires
place-place-requires c = (c.args.parts.now.count, c.requires.rule)

pub mother-requires-clause-made : goal.mother-requires-clause-made
mother-requires-clause-made c =
    let line = c.args.self.now.line in
    let t = line.signs.now in
    let made = parts_made (signs_of t) (map (lexeme_seen (λ full. view_in t full.graph)) line.leaves.now) line.end (λ f. view_in t f.graph) (parts_of c.args.parts.now) c.requires.reached in
    subst (λ u. All (λ (f : FullTree). IsMade (signs_of u) (view_in u f.graph)) (parts_of c.args.parts.now)) (sym c.args.self.now.same) made

pub mother-requires-clause-rule : goal.mother-requires-clause-rule
mother-requires-clause-rule c =
    let t = c.args.self.now.line.signs.now in
    subst (λ u. HasDaughters (signs_of u) c.place-place.result c.args.parts.now.count) (sym c.args.self.now.same)
    (daughters_at t c.args.rule c.place-place.result c.place-place.ensures c.requires.rule.0 c.args.parts.now.count c.requires.rule)

pub returns-in-Ok : goal.returns-in-Ok
returns-in-Ok c =
    let t = c.args.self.now.line.signs.now in
    by_number t c.args.rule c.place-place.result c.place-place.ensures c.requires.rule.0 (all_seen t c.args.parts.now) c.in-Ok.full
    (subst (λ u. TellsMother u c.place-place.result (all_seen u c.args.parts.now) c.in-Ok.full) c.args.self.now.same c.in-Ok.ensures)
