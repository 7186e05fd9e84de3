use Rattle.std.proofs.Common.{take}
use Rattle.lkb_io.specs.Lines.{HasNoEnd}
use Rattle.profile_reports.proofs.items_lines.first_line.Given as goal

abbrev pub invariant-loop-i : goal.invariant-loop-i
invariant-loop-i l = HasNoEnd (take l.i l.bytes)
