use Rattle.grammar_types.proofs.EachOutcome.{types_or_fault}
use Rattle.grammar_types.proofs.WalkedTexts.{texts_walked}
use Rattle.grammar_types.proofs.laws.each_outcome.Goals as goal

pub returns-clause-types : goal.returns-clause-types
returns-clause-types c = λ w can texts. types_or_fault w can texts

pub returns-clause-texts : goal.returns-clause-texts
returns-clause-texts c = λ walked. texts_walked walked
