use Rattle.std.proofs.Common.{◌≡◌, ℕ, ◌<◌, [], map, length}
use mathlib.Core.Option.{some}
use lib.ListN.{get_elem?}
use Rattle.chart_workers.specs.declared.seat.Pass.{Pass}
use Rattle.chart_workers.specs.Balance.{IsAdditive}
use Rattle.chart_workers.specs.Whole.{all_of, pass_place, AreLinked}
use Rattle.chart_workers.proofs.settling.gather.Given as goal

abbrev pub invariant-loop-at : goal.invariant-loop-at
invariant-loop-at l = record {
  places : map pass_place l.passes.items ≡ map pass_place l.fn.passes.items;
  linked : AreLinked (map pass_place l.fn.passes.items) l.passes.items;
  all : (f : _) → IsAdditive f → (t : ℕ) → all_of f t l.passes.items ≡ all_of f t l.fn.passes.items;
  empty : (j : ℕ) (p : Pass) → get_elem? l.passes.items j ≡ some p → j < l.at → p.doors.items ≡ [];
  count : length l.passes.items ≡ length l.fn.passes.items;
}
