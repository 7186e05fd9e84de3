use Rattle.std.proofs.Common.{◌≡◌, drop, vec_capacity}
use Rattle.chart_core.specs.View.{into_of, KeepsRows, write_all}
use Rattle.chart_core.proofs.search.freeze.Given as goal

abbrev pub invariant-loop-place : goal.invariant-loop-place
invariant-loop-place g l =
    record {
      into : write_all (into_of l.rows.items) (drop l.place-index l.places) l.number ≡ write_all (into_of l.initial.rows.items) l.places l.number;
      rows : KeepsRows l.initial.rows.items l.rows.items;
      room : vec_capacity l.rows ≡ vec_capacity l.initial.rows;
    }
