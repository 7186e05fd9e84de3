use Rattle.std.proofs.Common.{◌∙◌, subst}
use Rattle.rule_trees.specs.Mothers.{view_in}
use Rattle.grammar_rules.specs.Told.{TellsRooted}
use Rattle.grammar_rules.proofs.mother_remembered.RememberedMothers.rooted.Goals as goal

pub returns : goal.returns
returns c =
    subst (λ t. TellsRooted t (view_in t c.args.full.now.graph) c.in_ok-told.told.now) (c.self.invariant.1 ∙ c.self.view_is) c.in_ok-told.ensures
