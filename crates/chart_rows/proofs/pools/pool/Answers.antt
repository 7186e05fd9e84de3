use Rattle.std.proofs.Common.{◌∙◌, sym, subst}
use Rattle.chart_workers.specs.Pools.{ArePool}
use Rattle.chart_rows.proofs.pools.pool.Goals as goal

pub settle-settled-requires : goal.settle-settled-requires
settle-settled-requires g c = subst ArePool (sym (c.in_ok-passes.ensures ∙ c.steps.ensures)) c.in_ok-seats.ensures.pool
