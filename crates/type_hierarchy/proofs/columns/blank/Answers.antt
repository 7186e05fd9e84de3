use Rattle.std.proofs.Common.{refl}
use Rattle.type_hierarchy.proofs.ColumnLemmas.{blank_cell}
use Rattle.type_hierarchy.proofs.columns.blank.Goals as goal

pub returns-clause-cells : goal.returns-clause-cells
returns-clause-cells c = λ row column. blank_cell _ row column refl
