use Rattle.mrs_model.specs.Inner.State.{task_of, IsSearching, work_of}
use Rattle.mrs_model.proofs.search.solve.Given as goal

abbrev pub invariant-loop-search : goal.invariant-loop-search
invariant-loop-search l = IsSearching (task_of l.sides) l.search l.next

abbrev pub decreases-loop-search : goal.decreases-loop-search
decreases-loop-search l = work_of (task_of l.sides) l.search l.next
