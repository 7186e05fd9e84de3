use Rattle.std.proofs.Common.{arith}
use Rattle.structure_rows.proofs.AnswerLemmas.{answer_at}
use Rattle.structure_rows.proofs.structures.unification.Goals as goal

pub joined-requires-clause-a : goal.joined-requires-clause-a
joined-requires-clause-a c =
    answer_at c.args.system.now c.args.pile.now.items c.number.result c.index.result.now c.requires.known (omega (arith, c.len.ensures, c.if-a-len.false)) c.index.ensures

pub joined-requires-clause-b : goal.joined-requires-clause-b
joined-requires-clause-b c =
    answer_at c.args.system.now c.args.pile.now.items c.number-2.result c.index-2.result.now c.requires.known
    (omega (arith, c.len-else-a-len.ensures, c.if-b-len.false)) c.index-2.ensures
