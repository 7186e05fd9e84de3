use Rattle.std.proofs.Common.{sym, subst}
use Rattle.command_line.specs.Fronts.{IsAt}
use Rattle.command_line.proofs.Ends.{help-ends, past-ends, arguments-end}
use Rattle.command_line.proofs.word_reading.lacking.Goals as goal

pub returns-in-AfterHelp : goal.returns-in-AfterHelp
returns-in-AfterHelp c = λ words at ends. help-ends words (subst (IsAt words) c.in-AfterHelp.is at)

pub returns-in-PastEnd : goal.returns-in-PastEnd
returns-in-PastEnd c = λ words at ends. past-ends words (subst (IsAt words) c.in-PastEnd.is at)

pub returns-in-None : goal.returns-in-None
returns-in-None c = λ words at ends. arguments-end words c.in-Argument.command c.in-Argument.filled (subst (IsAt words) c.in-Argument.is at) (sym c.in-None.ensures)
