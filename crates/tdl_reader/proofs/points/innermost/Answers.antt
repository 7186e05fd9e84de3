use Rattle.tdl_reader.proofs.Stacks.{popped}
use Rattle.tdl_reader.proofs.points.innermost.Goals as goal

pub returns-clause-found : goal.returns-clause-found
returns-clause-found c = popped c.pop.result c.pop.new.self.items c.args.frames.now.items c.pop.ensures.items
