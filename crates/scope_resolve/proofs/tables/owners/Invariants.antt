use Rattle.std.proofs.Common.{◌≡◌, length, take}
use Rattle.scope_model.specs.States.{AreApart}
use Rattle.scope_resolve.proofs.Owning.{AreSeen, AreOwned}
use Rattle.scope_resolve.proofs.tables.owners.Given as goal

abbrev pub invariant-loop-k : goal.invariant-loop-k
invariant-loop-k l = record {
  owners : length l.owner.items ≡ l.room;
  seens : length l.seen.items ≡ l.room;
  known : AreSeen l.seen.items (take l.k l.openings);
  owned : AreOwned l.owner.items (take l.k l.openings);
  apart : AreApart (take l.k l.openings);
}
