use Rattle.tdl_reader.proofs.Stacks.{stack_last}
use Rattle.tdl_reader.proofs.points.open_frame.Goals as goal

pub returns-clause-found : goal.returns-clause-found
returns-clause-found c = stack_last _ _ _ c.in_ok-push.ensures.items
