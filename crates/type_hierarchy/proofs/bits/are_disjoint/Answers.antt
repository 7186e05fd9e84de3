use Rattle.std.proofs.Common.{arith, refl}
use Rattle.type_hierarchy.proofs.BitLemmas.{disjoint_word, disjoint_bits}
use Rattle.type_hierarchy.proofs.bits.are_disjoint.Goals as goal

pub returns-then-a-i-ne0 : goal.returns-then-a-i-ne0
returns-then-a-i-ne0 c = (
  λ e. absurd cc,
  λ none. absurd (c.if-a-i-ne0.true (disjoint_word c.args.a.now c.args.b.now c.loop-i.i (c.type_inv.a c.loop-i.i).fits none)),
)

pub returns : goal.returns
returns c = (λ _. disjoint_bits c.args.a.now c.args.b.now c.loop-i.i (omega arith) c.loop-i.invariant, λ _. refl)
