use Rattle.std.proofs.Common.{subst}
use Rattle.grammar_rules.specs.Told.{TellsMother}
use Rattle.grammar_rules.proofs.asked.UnderRulesAsked.same.Goals as goal

pub returns : goal.returns
returns c = λ yes number told h. subst (λ fs. TellsMother c.args.self.now.signs.now number fs told) (c.same_parts.ensures yes) h
