use Rattle.std.proofs.Common.{◌+◌, ◌*◌, ◌∙◌, slice_index, slice_set, refl, arith}
use Rattle.std.proofs.lemmas.List.{length-set}
use Rattle.type_hierarchy.proofs.SquareLemmas.{low_word, high_word, made_more, made_turned}
use Rattle.type_hierarchy.proofs.columns.turn_once.Goals as goal

pub loop-i-init : goal.loop-i-init
loop-i-init c = record { size = c.requires.to; made = λ k h. absurd (omega arith) }

pub loop-i-preserved : goal.loop-i-preserved
loop-i-preserved c =
    let low = low_word c.args.shift c.args.mask (slice_index c.args.from.now c.loop-i.i) (slice_index c.args.from.now (c.loop-i.i + 32)) in
    let high = high_word c.args.shift c.args.mask (slice_index c.args.from.now c.loop-i.i) (slice_index c.args.from.now (c.loop-i.i + 32)) in
    record {
      size = length-set (slice_set c.loop-i.to (2 * c.loop-i.i) low) (2 * c.loop-i.i + 1) high ∙ length-set c.loop-i.to (2 * c.loop-i.i) low ∙ c.loop-i.invariant.size;
      made = made_more c.args.shift c.args.mask c.args.from.now c.loop-i.to _ c.loop-i.i low high c.loop-i-test.true c.loop-i.invariant.size c.loop-i.invariant.made refl refl refl;
    }

pub returns : goal.returns
returns c = record {
  size = c.loop-i.invariant.size;
  turned = made_turned c.args.shift c.args.mask c.args.from.now c.loop-i.to (omega arith) c.requires.mask (λ k h. c.loop-i.invariant.made k (omega arith));
}
