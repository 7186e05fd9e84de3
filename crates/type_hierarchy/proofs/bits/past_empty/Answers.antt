use Rattle.std.proofs.Common.{◌*◌, inl, inr, arith}
use Rattle.std.proofs.lemmas.Bool.{cases_lt}
use Rattle.type_hierarchy.proofs.BitLemmas.{none_in_empty}
use Rattle.type_hierarchy.proofs.bits.past_empty.Goals as goal

pub loop-i-preserved : goal.loop-i-preserved
loop-i-preserved c = record {
  low = omega (arith, c.loop-i.invariant.low);
  high = omega arith;
  none_before = λ x low high. elim (cases_lt x (64 * c.loop-i.i)) [
    | inl before ↦ c.loop-i.invariant.none_before x low before
    | inr after ↦ none_in_empty c.args.words.now c.loop-i.i x c.if-left-ne0.false (omega arith)
  ];
}
