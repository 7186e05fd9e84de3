use Rattle.std.proofs.Common.{◌<◌, length}
use Rattle.structure_rows.specs.Free.{IsEmpty}
use Rattle.structure_rows.proofs.drawn.add_nodes.Given as goal

abbrev pub invariant-loop-name : goal.invariant-loop-name
invariant-loop-name l = (l.last.0 < length l.builder.types) × IsEmpty l.builder
