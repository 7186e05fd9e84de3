use Rattle.std.proofs.Common.{slice_index}
use Rattle.fs_drawing.specs.Inner.Climbing.{AddsLeaves, IsPassing}
use Rattle.fs_drawing.proofs.bounds.pass_added.Given as goal

abbrev pub invariant-loop-place : goal.invariant-loop-place
invariant-loop-place l =
    record {
      passing : IsPassing l.nodes (slice_index l.notes) (record { node = l.x.node; place = l.place; own = l.x.own; high = l.high });
      leaves : AddsLeaves l.nodes l.fn.notes l.notes;
    }

abbrev pub decreases-loop-place : goal.decreases-loop-place
decreases-loop-place l = l.place
