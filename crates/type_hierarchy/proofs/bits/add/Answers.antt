use Rattle.type_hierarchy.proofs.BitLemmas.{has_bit-set_same, has_bit-set_other, row_added}
use Rattle.type_hierarchy.proofs.bits.add.Goals as goal

pub returns-clause-has : goal.returns-clause-has
returns-clause-has c = has_bit-set_same c.args.words.now c.args.x c.requires

pub returns-clause-others : goal.returns-clause-others
returns-clause-others c = λ y apart. has_bit-set_other c.args.words.now c.args.x y c.requires apart

pub returns-clause-row : goal.returns-clause-row
returns-clause-row c = λ n h row. row_added n c.args.words.now c.args.x h c.requires row
