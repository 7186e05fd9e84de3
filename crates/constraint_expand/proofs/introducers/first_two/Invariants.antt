use Rattle.std.proofs.Common.{take}
use Rattle.constraint_expand.specs.Introducers.{numbers_of}
use Rattle.constraint_expand.proofs.IntroducerLemmas.{AreTwo}
use Rattle.constraint_expand.proofs.introducers.first_two.Given as goal

abbrev pub invariant-loop-writer : goal.invariant-loop-writer
invariant-loop-writer l = AreTwo l.types (numbers_of l.writers) (numbers_of (take l.writer-index l.writers)) l.a.0 l.b.0
