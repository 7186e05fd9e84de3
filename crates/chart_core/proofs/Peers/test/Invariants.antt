use Rattle.std.proofs.Common.{◌≡◌, ◌++◌, map, drop}
use Rattle.chart_core.specs.Verdicts.{AreOn}
use Rattle.chart_core.proofs.Peers.test.Given as goal

abbrev pub invariant-loop-peer : goal.invariant-loop-peer
invariant-loop-peer g l =
    record {
      on : AreOn (g.S.Shapes.calculus l.shapes) (g.S.Shapes.meaning l.shapes) (g.S.Shapes.meaning l.shapes l.shape) l.self.hosts.items l.verdicts.items;
      rows : map (λ v. v.row) l.verdicts.items ++ map (λ p. p.row) (drop l.peer-index l.self.hosts.items) ≡ map (λ p. p.row) l.self.hosts.items;
    }
