use Rattle.packed_items.specs.Answers.{limits_in}
use Rattle.engine.specs.Views.{speech_of}
use Rattle.side_by_side.specs.Works.{AreGiven}
use Rattle.self_tests.specs.Inner.Counts.{MayBeCounted}
use Rattle.self_tests.proofs.turns.count_again.Given as goal

abbrev pub invariant-loop-place : goal.invariant-loop-place
invariant-loop-place g l =
    AreGiven (λ place line count. MayBeCounted (speech_of l.counter.engine.now) (limits_in l.counter.limits.now) l.counter.limits.now.lexical line.items count) 0 l.lines l.counts.items
