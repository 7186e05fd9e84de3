use Rattle.std.proofs.Common.{All, ◌∙◌, sym, subst}
use Rattle.forest_unpack.specs.Parts.{parts_of}
use Rattle.book_signs.specs.Trees.{signs_of}
use Rattle.rule_trees.specs.Fulls.{FullTree}
use Rattle.rule_trees.specs.Mothers.{view_in, IsMade, HasDaughters}
use Rattle.grammar_rules.specs.Told.{all_seen, TellsMother}
use Rattle.tree_structures.proofs.shared.SharedFulls.mother.Goals as goal

pub mother-requires-clause-made : goal.mother-requires-clause-made
mother-requires-clause-made c =
    subst (λ t. All (λ (f : FullTree). IsMade (signs_of t) (view_in t f.graph)) (parts_of c.args.parts.now)) (sym (c.self.invariant ∙ c.self.view_is)) c.requires.made

pub mother-requires-clause-rule : goal.mother-requires-clause-rule
mother-requires-clause-rule c =
    subst (λ t. HasDaughters (signs_of t) c.args.place c.args.parts.now.count) (sym (c.self.invariant ∙ c.self.view_is)) c.requires.rule

pub returns : goal.returns
returns c =
    subst (λ t. TellsMother t c.args.place (all_seen t c.args.parts.now) c.in_ok-full.full) (c.self.invariant ∙ c.self.view_is) c.in_ok-full.ensures
