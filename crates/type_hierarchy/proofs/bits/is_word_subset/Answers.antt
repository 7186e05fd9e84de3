use Rattle.type_hierarchy.proofs.BitLemmas.{word_subset}
use Rattle.type_hierarchy.proofs.bits.is_word_subset.Goals as goal

pub returns : goal.returns
returns c = λ _. word_subset c.args.a.now c.args.b.now c.args.word c.if-a-i.false
