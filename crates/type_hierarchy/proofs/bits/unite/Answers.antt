use Rattle.std.proofs.Common.{arith}
use Rattle.type_hierarchy.proofs.BitLemmas.{ored, row_united}
use Rattle.type_hierarchy.proofs.bits.unite.Goals as goal

pub returns : goal.returns
returns c = record {
  has = ored c.args.words.now c.args.other.now c.loop-i.words c.requires c.loop-i.invariant.size (λ k h. c.loop-i.invariant.done k (omega arith));
  row = λ n r s. row_united n c.args.words.now c.args.other.now c.loop-i.words c.loop-i.invariant.size c.requires (λ k h. c.loop-i.invariant.done k (omega arith)) r s;
}
