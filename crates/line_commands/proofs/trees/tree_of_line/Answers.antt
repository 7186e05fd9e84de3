use Rattle.line_commands.proofs.TreeFaults.{text-faults}
use Rattle.line_commands.proofs.trees.tree_of_line.Goals as goal

pub returns-in-Ok-clause-fault : goal.returns-in-Ok-clause-fault
returns-in-Ok-clause-fault c = text-faults c.args.names.now c.args.line.now c.read_tree.result c.in-Ok.text.now c.in-Ok.ensures.cases.0 c.in-Ok.ensures.cases.1 c.read_tree.ensures.fault
