use Rattle.std.proofs.Common.{sym, subst}
use Rattle.book_signs.specs.Trees.{signs_of}
use Rattle.lexical_items.specs.Fulls.{IsLexicalFull}
use Rattle.lexical_items.specs.Known.{IsUnder}
use Rattle.rule_trees.specs.Fulls.{FullTree}
use Rattle.rule_trees.specs.Mothers.{view_in}
use Rattle.tree_structures.specs.Formed.{IsLexicalRuleAt}
use Rattle.tree_structures.proofs.shared.SharedFulls.under.Goals as goal

pub under-requires-clause-place : goal.under-requires-clause-place
under-requires-clause-place c =
    let rule = subst (λ t. IsLexicalRuleAt (signs_of t) c.args.place) (sym c.self.view_is) c.requires.rule in
    c.laws.ensures.rule_places.all c.args.place rule.instance rule.at rule.kind_is

pub under-requires-clause-lexical : goal.under-requires-clause-lexical
under-requires-clause-lexical c =
    subst (λ t. IsLexicalFull (signs_of t) (view_in t c.args.full.now.graph)) (sym c.self.view_is) c.requires.lexical

pub returns : goal.returns
returns c =
    subst (λ t. IsUnder (signs_of t) (λ (f : FullTree). view_in t f.graph) c.args.place (view_in t c.args.full.now.graph) c.in_ok-made.made) c.self.view_is c.in_ok-made.ensures
