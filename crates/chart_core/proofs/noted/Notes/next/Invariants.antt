use Rattle.std.proofs.Common.{length}
use Rattle.chart_core.specs.Noted.{SameNotes}
use Rattle.chart_core.proofs.noted.Notes.next.Given as goal

abbrev pub invariant-loop-key : goal.invariant-loop-key
invariant-loop-key l = SameNotes l.initial.self l.self

abbrev pub decreases-loop-key : goal.decreases-loop-key
decreases-loop-key l = length l.self.lists.entries
