use Rattle.std.proofs.Common.{arith, refl}
use Rattle.type_hierarchy.proofs.MarkLemmas.{word_apart, bit_apart, bit_word}
use Rattle.type_hierarchy.proofs.marks.are_disjoint_at.Goals as goal

pub returns-then-a-i-ne0 : goal.returns-then-a-i-ne0
returns-then-a-i-ne0 c = (
  λ e. absurd cc,
  λ none. absurd (c.if-a-i-ne0.true
      (word_apart c.args.a.now c.args.b.now c.loop-i.i (c.type_inv.a c.loop-i.i).fits (λ x e. none x (bit_word x c.loop-i.i c.args.bit e c.loop-i.invariant.0)))),
)

pub returns : goal.returns
returns c = (λ _. bit_apart c.args.a.now c.args.b.now c.args.bit c.loop-i.i (omega arith) c.loop-i.invariant.1, λ _. refl)
