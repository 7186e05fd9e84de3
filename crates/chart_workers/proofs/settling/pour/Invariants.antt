use Rattle.std.proofs.Common.{◌≡◌, ℕ, ◌+◌, map, length}
use Rattle.chart_workers.specs.Balance.{weigh, IsAdditive}
use Rattle.chart_workers.specs.Whole.{all_of, at_door, pass_place, pass_doors, AreLinked, ArePlaced}
use Rattle.chart_workers.proofs.settling.pour.Given as goal

abbrev pub invariant-loop-door : goal.invariant-loop-door
invariant-loop-door l = record {
  places : map pass_place l.passes.items ≡ map pass_place l.fn.passes.items;
  doors : map pass_doors l.passes.items ≡ map pass_doors l.fn.passes.items;
  linked : AreLinked (map pass_place l.fn.passes.items) l.passes.items;
  placed : ArePlaced (map pass_place l.fn.passes.items) l.doors.items;
  all : (f : _) → IsAdditive f → (t : ℕ) → all_of f t l.passes.items + weigh (at_door f t) l.doors.items ≡ all_of f t l.fn.passes.items + weigh (at_door f t) l.fn.doors.items;
}

abbrev pub decreases-loop-door : goal.decreases-loop-door
decreases-loop-door l = length l.doors.items
