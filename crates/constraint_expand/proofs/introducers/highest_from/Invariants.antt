use Rattle.std.proofs.Common.{take}
use Rattle.constraint_expand.specs.Introducers.{numbers_of}
use Rattle.constraint_expand.proofs.IntroducerLemmas.{IsHighestOf}
use Rattle.constraint_expand.proofs.introducers.highest_from.Given as goal

abbrev pub invariant-loop-writer : goal.invariant-loop-writer
invariant-loop-writer l = IsHighestOf l.types (numbers_of l.writers) (numbers_of (take l.writer-index l.writers)) l.fn.start.0 l.highest.0
