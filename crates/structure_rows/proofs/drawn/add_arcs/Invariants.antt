use Rattle.std.proofs.Common.{◌<◌, length}
use Rattle.structure_rows.specs.Free.{IsFree}
use Rattle.structure_rows.proofs.drawn.add_arcs.Given as goal

abbrev pub invariant-loop-arc : goal.invariant-loop-arc
invariant-loop-arc l =
    (goal.iterator-loop-arc).can_next l.arc-iterator ×
    (goal.iterator-loop-arc).is_finite l.arc-iterator ×
    (l.last.0 < length l.builder.types) ×
    IsFree l.builder l.seen.items
