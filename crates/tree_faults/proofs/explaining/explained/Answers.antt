use Rattle.tree_faults.specs.WordBooks.{said_by}
use Rattle.tree_faults.proofs.explaining.explained.Goals as goal

pub returns-in-Fault-clause-explained : goal.returns-in-Fault-clause-explained
returns-in-Fault-clause-explained c = (rw c.in-Fault.is at c.in_ok-explanation.ensures).explains (said_by c.args.book.now)
