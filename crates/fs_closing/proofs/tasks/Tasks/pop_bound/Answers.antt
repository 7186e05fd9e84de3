use Rattle.fs_closing.proofs.WorkLemmas.{bound_taken}
use Rattle.fs_closing.proofs.tasks.Tasks.pop_bound.Goals as goal

pub returns : goal.returns
returns c = bound_taken c.args.self.now c.pop.new.self c.pop.result c.pop.ensures.items c.pop.ensures.cases
