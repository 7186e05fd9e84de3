use Rattle.fs_closing.proofs.WorkLemmas.{pair_taken}
use Rattle.fs_closing.proofs.tasks.Tasks.pop_pair.Goals as goal

pub returns : goal.returns
returns c = pair_taken c.args.self.now c.pop.new.self c.pop.result c.pop.ensures.items c.pop.ensures.cases
