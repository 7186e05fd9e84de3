use Rattle.std.proofs.Common.{ℕ, ◌<◌}
use Rattle.type_hierarchy.specs.Table.{count_of}
use Rattle.fs_graph.specs.GraphMap.{type_at}
use Rattle.structure_rows.proofs.asked.types_in.Given as goal

abbrev pub invariant-loop-n : goal.invariant-loop-n
invariant-loop-n l = (k : ℕ) → k < l.n → type_at l.graph k < count_of l.types
