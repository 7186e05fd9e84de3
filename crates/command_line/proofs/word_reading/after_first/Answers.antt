use Rattle.command_line.proofs.Steps.{named-at}
use Rattle.command_line.proofs.word_reading.after_first.Goals as goal

pub returns-in-Some : goal.returns-in-Some
returns-in-Some c = named-at c.in-Some.command c.args.word.now c.in-Some.ensures
