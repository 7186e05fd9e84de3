-- A history is short: it is kept in one list.
use Rattle.std.specs.Prelude.{◌^◌, ◌<◌}
use Rattle.std.proofs.Common.{arith}
use Rattle.chart_core.specs.declared.chart.Core.{Core}
use Rattle.chart_core.specs.Kept.{places_of}

pub few_places : {X T C W B : Type 0} (core : Core X T C W B) → places_of core < 2 ^ 63
few_places core = omega (arith, core.history.ok, core.history.small)
