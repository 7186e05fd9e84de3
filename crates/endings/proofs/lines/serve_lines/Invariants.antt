use Rattle.std.proofs.Common.{◌≡◌, ℕ, ◌≤◌, ◌-◌, List, length}
use Rattle.std.specs.List.{concat}
use Rattle.lkb_io.specs.Outside.{Adds}
use Rattle.endings.specs.Readings.{ReadsSoFar}
use Rattle.endings.specs.Notes.{AreNotes, OrNone}
use Rattle.endings.specs.Inner.Batches.{AreTold, IsNotedSoFar}
use Rattle.endings.proofs.lines.serve_lines.Given as goal

abbrev pub invariant-loop-count : goal.invariant-loop-count
invariant-loop-count g l = record {
  read : (lines : List (List ℕ)) × (pieces : List (List ℕ))
      × ReadsSoFar (g.I.Source.left l.fn.input) (g.I.Source.left l.input) l.held.bytes l.held.ended lines
      × AreTold (g.C.Answers.IsAnswer l.command) 1 lines pieces l.refused l.kept.wanting
      × Adds (g.O.Sink.written l.fn.out) (g.O.Sink.written l.out) (concat pieces)
      × (length lines ≡ l.count)
      × (text : List ℕ) × AreNotes (OrNone l.kept.wanting (g.C.Answers.IsNote l.command)) 1 lines text
      × IsNotedSoFar l.kept.failed (g.X.Sink.written l.fn.err) (g.X.Sink.written l.err) (g.X.Sink.faults l.fn.err) (g.X.Sink.faults l.err) text;
  no_fall_in : g.I.Source.faults l.fn.input ≤ g.I.Source.faults l.input;
  no_fall_out : g.O.Sink.faults l.fn.out ≤ g.O.Sink.faults l.out;
}

abbrev pub decreases-loop-count : goal.decreases-loop-count
decreases-loop-count g l = 18446744073709551615 - l.count
