use Rattle.std.proofs.Common.{arith}
use Rattle.type_hierarchy.proofs.BitLemmas.{anded, row_retained}
use Rattle.type_hierarchy.proofs.bits.retain.Goals as goal

pub returns : goal.returns
returns c = record {
  has = anded c.args.words.now c.args.other.now c.loop-i.words c.requires c.loop-i.invariant.size (λ k h. c.loop-i.invariant.done k (omega arith));
  row = λ n r. row_retained n c.args.words.now c.args.other.now c.loop-i.words c.loop-i.invariant.size c.requires (λ k h. c.loop-i.invariant.done k (omega arith)) r;
}
