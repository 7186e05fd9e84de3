use Rattle.std.proofs.Common.{take}
use Rattle.fs_closing.specs.Systems.{rules_of}
use Rattle.fs_closing.specs.Inner.Outlines.{AreMarks}
use Rattle.fs_closing.proofs.outline.marks_of.Given as goal

abbrev pub invariant-loop-j : goal.invariant-loop-j
invariant-loop-j l = AreMarks (rules_of l.constraints) (take l.j-index l.list) l.marks.items
