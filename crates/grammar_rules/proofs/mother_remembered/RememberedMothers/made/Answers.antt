use Rattle.std.proofs.Common.{◌∙◌, IfSome, subst}
use Rattle.grammar_rules.specs.Told.{all_seen, TellsMother}
use Rattle.grammar_rules.proofs.mother_remembered.RememberedMothers.made.Goals as goal

pub returns : goal.returns
returns c =
    subst (λ t. IfSome c.find.result (λ told. TellsMother t c.args.place (all_seen t c.args.parts.now) told.now)) (c.self.invariant.0 ∙ c.self.view_is) c.find.ensures
