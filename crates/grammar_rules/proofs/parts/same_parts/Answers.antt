use Rattle.std.proofs.Common.{arith}
use Rattle.grammar_rules.proofs.Sames.{same_seen}
use Rattle.grammar_rules.proofs.parts.same_parts.Goals as goal

pub returns : goal.returns
returns k = λ yes.
    same_seen k.args.signs.now k.args.parts.now k.args.others.now (k.same_part.ensures (grind arith)) (k.same_part-2.ensures (grind arith)) (k.same_part-3.ensures (grind arith)) (k.same_part-4.ensures yes)
