use Rattle.std.proofs.Common.{arith, refl}
use Rattle.type_hierarchy.proofs.MarkLemmas.{word_within, bit_within, bit_word}
use Rattle.type_hierarchy.proofs.marks.is_subset_at.Goals as goal

pub returns-then-a-i : goal.returns-then-a-i
returns-then-a-i c = (
  λ e. absurd cc,
  λ sub. absurd (c.if-a-i.true
      (word_within c.args.a.now c.args.b.now c.loop-i.i (c.type_inv.a c.loop-i.i).fits (λ x e. sub x (bit_word x c.loop-i.i c.args.bit e c.loop-i.invariant.0)))),
)

pub returns : goal.returns
returns c = (λ _. bit_within c.args.a.now c.args.b.now c.args.bit c.loop-i.i (omega arith) c.loop-i.invariant.1, λ _. refl)
