use Rattle.std.proofs.Common.{take}
use Rattle.lkb_io.specs.Lines.{HasNoEnd}
use Rattle.grammar_load.proofs.irregular.first_line.Given as goal

abbrev pub invariant-loop-i : goal.invariant-loop-i
invariant-loop-i l = HasNoEnd (take l.i l.bytes)
