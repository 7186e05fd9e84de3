use Rattle.std.proofs.Common.{◌≡◌}
use Rattle.mrs_model.specs.Inner.State.{task_of, IsSearching}
use Rattle.mrs_model.proofs.search.Search.advance.Given as goal

abbrev pub invariant-loop-place : goal.invariant-loop-place
invariant-loop-place l = record {
  searching : IsSearching (task_of l.sides) l.self l.place;
  steps : l.self.steps.items ≡ l.fn.self.steps.items;
  pairs : l.self.bound.pairs ≡ l.fn.self.bound.pairs;
}
