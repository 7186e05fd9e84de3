use Rattle.std.proofs.Common.{◌≡◌, ℕ, ◌≤◌, ◌++◌, List, Option, map, length}
use Rattle.endings.specs.Readings.{ReadsSoFar}
use Rattle.endings.specs.Inner.Batches.{ReadsSome}
use Rattle.endings.proofs.gathering.read_batch.Given as goal

abbrev pub invariant-loop-count : goal.invariant-loop-count
invariant-loop-count g l = record {
  so_far : (old : Option (List ℕ)) (before : List (List ℕ)) → ReadsSoFar old (g.I.Source.left l.fn.input) l.fn.held.bytes l.fn.held.ended before
      → ReadsSoFar old (g.I.Source.left l.input) l.held.bytes l.held.ended (before ++ map (λ l. l.items) l.lines.items);
  before : (old : Option (List ℕ)) (before : List (List ℕ)) → ReadsSome old (g.I.Source.left l.fn.input) before → ReadsSome old (g.I.Source.left l.input) before;
  one_each : length l.lines.items ≡ l.count;
  no_fall : g.I.Source.faults l.fn.input ≤ g.I.Source.faults l.input;
}
