use Rattle.mrs_spelling.proofs.Firsts.{keeps_told}
use Rattle.mrs_spelling.proofs.Placed.{breach_first}
use Rattle.mrs_spelling.proofs.laws.breach_is_first.Goals as goal

pub returns : goal.returns
returns c = λ cs es fs e o d rest h k b. breach_first cs es fs e o d rest h (keeps_told es k) b
