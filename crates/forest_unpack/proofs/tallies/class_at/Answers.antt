use Rattle.std.proofs.Common.{rules}
use Rattle.forest_unpack.proofs.Raising.{at_get}
use Rattle.forest_unpack.proofs.tallies.class_at.Goals as goal

pub returns-then-made-place : goal.returns-then-made-place
returns-then-made-place g c = record {
  class = c.index-made-place.result;
  at = at_get c.args.made.now _ c.index-made-place.result (search rules) (search rules);
  same = (search rules);
}
