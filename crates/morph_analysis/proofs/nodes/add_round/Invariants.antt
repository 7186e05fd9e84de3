use Rattle.std.proofs.Common.{◌<◌, ◌≤◌, ℕ, map}
use Rattle.morph_analysis.specs.Inner.Growing.{Adds, IsDone}
use Rattle.morph_analysis.specs.Views.{node_of}
use Rattle.morph_analysis.proofs.nodes.add_round.Given as goal

abbrev pub invariant-loop-place : goal.invariant-loop-place
invariant-loop-place l = record {
  adds : Adds l.spelling l.distance (map node_of l.initial.nodes.entries) (map node_of l.nodes.entries);
  done : (p : ℕ) → l.begin ≤ p → p < l.place → IsDone l.spelling (map node_of l.nodes.entries) p;
}
