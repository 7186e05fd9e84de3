use Rattle.std.proofs.Common.{take, map}
use Rattle.std.specs.List.{concat}
use Rattle.endings.specs.Inner.Batches.{TellsMore, note_of}
use Rattle.endings.proofs.noting.put_notes.Given as goal

abbrev pub invariant-loop-answer : goal.invariant-loop-answer
invariant-loop-answer g l = TellsMore l.fn.failed l.failed (g.X.Sink.written l.fn.err) (g.X.Sink.written l.err) (g.X.Sink.faults l.fn.err) (g.X.Sink.faults l.err) (concat (take l.answer-index (map note_of l.told)))
