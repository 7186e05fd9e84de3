use Rattle.answer_memo.specs.Tagged.{AreTagged}
use Rattle.answer_memo.proofs.store.levels_of.Given as goal

abbrev pub invariant-loop : goal.invariant-loop
invariant-loop g l = AreTagged l.fn.tag.numbers l.levels.items
