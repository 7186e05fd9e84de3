use Rattle.std.proofs.Common.{slice_index}
use Rattle.fs_drawing.specs.Inner.Climbing.{AddsLeaves, IsPassing}
use Rattle.fs_drawing.proofs.bounds.pass_own.Given as goal

abbrev pub invariant-loop-i : goal.invariant-loop-i
invariant-loop-i l =
    record {
      passing : IsPassing l.nodes (slice_index l.notes) (record { node = l.x.node; place = 0; own = l.i; high = l.high });
      leaves : AddsLeaves l.nodes l.fn.notes l.notes;
    }
