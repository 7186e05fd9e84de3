use Rattle.std.proofs.Common.{◌≡◌, ◌++◌, All, map, drop, true}
use Rattle.std.specs.List.{filter}
use Rattle.chart_core.specs.Tests.{at_place, is_peer}
use Rattle.chart_core.specs.Copies.{IsCopy}
use Rattle.chart_core.proofs.search.peers_at.Given as goal

abbrev pub invariant-loop-place : goal.invariant-loop-place
invariant-loop-place g l =
    let k = g.S.Shapes.calculus l.shapes in
    let m = g.S.Shapes.meaning l.shapes in
    let t = at_place (is_peer k m (λ _. true) l.cover l.level) l.rows in
    record {
      rows : map (λ peer. peer.row.0) l.found.items ++ filter t (drop l.place-index l.places) ≡ filter t l.places;
      copies : All (λ peer. IsCopy (g.S.Shapes.belongs l.shapes) m l.rows peer.row.0 peer.shape) l.found.items;
    }
