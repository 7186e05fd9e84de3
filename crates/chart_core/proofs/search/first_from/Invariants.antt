use Rattle.std.proofs.Common.{◌-◌, length}
use Rattle.chart_core.proofs.search.first_from.Given as goal

abbrev pub decreases-loop-place : goal.decreases-loop-place
decreases-loop-place l = length l.tested - l.place
