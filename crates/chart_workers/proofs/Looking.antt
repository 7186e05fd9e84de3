-- What a look at a task tells of its mother's cell.
use Rattle.std.proofs.Common.{ℕ, All, Option, Some, None, IfSome}
use Rattle.chart_core.specs.declared.chart.Core.{Core}
use Rattle.chart_core.specs.declared.Ready.{Ready}
use Rattle.chart_core.specs.declared.Ready.TheVariants as ready
use Rattle.chart_core.specs.Grammar.{Grammar}
use Rattle.chart_core.specs.Calls.{ArePeers}
use Rattle.shared_chart.specs.declared.look.Cell.{Cell}
use Rattle.shared_chart.specs.Looks.{IsCellOf}

module _ {X T C W B M : Type 0} (g : Grammar T M C) (extent : C → ℕ) where
  pub cell_hosts : (state : Core X T C W B) (t : ℕ) (r : Ready X T C W B) (cell : Option (Cell X T C W B)) → IsCellOf g extent state t r cell → IfSome cell (λ c. All (λ peer. g.belongs peer.shape) c.peers.hosts.items)
  cell_hosts state t r None h = tt
  cell_hosts state t (ready.Ready rule parts) (Some cell) h = h.belongs
  cell_hosts state t (ready.Skipped row) (Some cell) h = absurd h
  cell_hosts state t (ready.Done place) (Some cell) h = absurd h

  pub cell_peers : (state : Core X T C W B) (t : ℕ) (r : Ready X T C W B) (cell : Option (Cell X T C W B)) → IsCellOf g extent state t r cell → IfSome cell (λ c. ArePeers g state c.cover c.level c.peers.hosts.items)
  cell_peers state t r None h = tt
  cell_peers state t (ready.Ready rule parts) (Some cell) h = h.hosts
  cell_peers state t (ready.Skipped row) (Some cell) h = absurd h
  cell_peers state t (ready.Done place) (Some cell) h = absurd h
