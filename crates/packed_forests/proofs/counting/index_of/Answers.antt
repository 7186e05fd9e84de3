use Rattle.chart_core.specs.Kept.{core_of, rows_in}
use Rattle.chart_core.specs.View.{into_of}
use Rattle.packed_forests.specs.Inner.Found.{lists_in}
use Rattle.packed_forests.proofs.Finding.{none_found}
use Rattle.packed_forests.proofs.counting.index_of.Goals as goal

pub loop-number-init : goal.loop-number-init
loop-number-init g c = record { full = c.in_ok-index.ensures.full; found = none_found g.S.Cover.Cover.cell_of (into_of (rows_in (core_of c.args.finished.now))) (lists_in c.in_ok-index.index) c.in_ok-index.ensures.empty }
