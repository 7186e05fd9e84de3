use Rattle.morph_analysis.proofs.TableLemmas.{all_may}
use Rattle.morph_analysis.proofs.table.Table.make.Goals as goal

pub returns-clause-all : goal.returns-clause-all
returns-clause-all c = all_may c.args.rows c.args.width _ c.in_ok-bits.bits.items (c.in_ok-bits.ensures.items_if_clones_equal (λ y h. h))
