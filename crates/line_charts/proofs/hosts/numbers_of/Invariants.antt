use Rattle.std.proofs.Common.{◌≡◌, ◌<◌, ℕ, length}
use Rattle.chart_model.specs.At.{At}
use Rattle.line_charts.specs.Inner.Stages.{IsNumber}
use Rattle.line_charts.specs.Inner.Hosts.{row_of}
use Rattle.line_charts.specs.declared.hosts.Host.{Host}
use Rattle.line_charts.proofs.hosts.numbers_of.Given as goal

abbrev pub invariant-loop-i : goal.invariant-loop-i
invariant-loop-i l = (length l.table.items ≡ l.rows) × ((n : ℕ) (h : Host) → n < l.i → At l.hosts n h → IsNumber l.table.items n (row_of h))
