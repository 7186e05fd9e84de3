use Rattle.mrs_spelling.proofs.Firsts.{keeps_told, stop_first}
use Rattle.mrs_spelling.proofs.laws.stop_is_first.Goals as goal

pub returns : goal.returns
returns c = λ cs es o d rest h k w. stop_first cs es o d rest h (keeps_told es k) w
