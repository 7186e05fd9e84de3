use Rattle.std.proofs.Common.{subst}
use Rattle.grammar_rules.specs.Told.{TellsRooted}
use Rattle.grammar_rules.proofs.asked.RootedAsked.same.Goals as goal

pub returns : goal.returns
returns c = λ yes number told h. subst (λ f. TellsRooted c.args.self.now.signs.now f told) (c.same.ensures yes) h
