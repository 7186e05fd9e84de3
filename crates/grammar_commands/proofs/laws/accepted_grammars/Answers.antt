use Rattle.grammar_commands.proofs.PlainBooks.{accepted}
use Rattle.grammar_commands.proofs.laws.accepted_grammars.Goals as goal

pub returns : goal.returns
returns c = accepted
