use Rattle.std.proofs.Common.{arith, refl}
use Rattle.type_hierarchy.proofs.SupertypeLemmas.{numbers_push}
use Rattle.type_hierarchy.proofs.supertypes.types_of.Goals as goal

pub loop-number-preserved : goal.loop-number-preserved
loop-number-preserved c = numbers_push c.args.numbers.now c.loop-number.types.items _ c.loop-number.number-index _ (omega arith) refl c.in_ok-push.ensures.items c.loop-number.invariant
