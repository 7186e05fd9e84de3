use Rattle.std.proofs.Common.{All, sym, subst}
use Rattle.forest_unpack.specs.Parts.{parts_of}
use Rattle.book_signs.specs.Trees.{signs_of}
use Rattle.rule_trees.specs.Fulls.{FullTree}
use Rattle.rule_trees.specs.Mothers.{view_in, IsMade, HasDaughters}
use Rattle.grammar_rules.specs.Told.{all_seen, TellsMother}
use Rattle.grammar_rules.proofs.mother_remembered.RememberedMothers.mother.Goals as goal

pub mother_of-requires-clause-made : goal.mother_of-requires-clause-made
mother_of-requires-clause-made c =
    subst (λ t. All (λ (f : FullTree). IsMade (signs_of t) (view_in t f.graph)) (parts_of c.args.parts.now)) (sym c.self.view_is) c.requires.made

pub mother_of-requires-clause-rule : goal.mother_of-requires-clause-rule
mother_of-requires-clause-rule c =
    subst (λ t. HasDaughters (signs_of t) c.args.place c.args.parts.now.count) (sym c.self.view_is) c.requires.rule

pub keep_made-requires : goal.keep_made-requires
keep_made-requires c =
    subst (λ t. TellsMother t c.args.place (all_seen t c.args.parts.now) c.in_ok-full.full) c.self.view_is c.in_ok-full.ensures.full

pub returns-in-Some : goal.returns-in-Some
returns-in-Some c =
    subst (TellsMother c.args.self.now c.args.place (all_seen c.args.self.now c.args.parts.now)) (sym c.in_ok-told.ensures) c.in-Some.ensures

pub returns : goal.returns
returns c =
    subst (λ t. TellsMother t c.args.place (all_seen t c.args.parts.now) c.in_ok-full.full) c.self.view_is c.in_ok-full.ensures.full
