use Rattle.fs_closing.specs.Systems.{rules_of}
use Rattle.fs_closing.specs.Inner.Outlines.{AreEnds}
use Rattle.fs_closing.proofs.outline.outline_of.Given as goal

abbrev pub invariant-loop-i : goal.invariant-loop-i
invariant-loop-i l = AreEnds l.types (rules_of l.constraints) l.order.items l.i l.ends.items
