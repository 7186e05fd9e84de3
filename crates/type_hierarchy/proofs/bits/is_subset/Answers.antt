use Rattle.std.proofs.Common.{arith}
use Rattle.type_hierarchy.proofs.BitLemmas.{subset_bits}
use Rattle.type_hierarchy.proofs.bits.is_subset.Goals as goal

pub returns : goal.returns
returns c = λ _. subset_bits c.args.a.now c.args.b.now c.loop-i.i (omega arith) c.loop-i.invariant
