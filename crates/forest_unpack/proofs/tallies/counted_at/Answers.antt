use Rattle.std.proofs.Common.{◌∙◌}
use Rattle.forest_unpack.proofs.Raising.{listed_at, listed_none}
use Rattle.forest_unpack.proofs.tallies.counted_at.Goals as goal

pub returns-in-Some : goal.returns-in-Some
returns-in-Some g c = c.as_slice.ensures.value ∙ listed_at c.args.table.now c.args.host c.in-Some.made.now c.in-Some.ensures.lookup.3.0 c.in-Some.ensures.lookup.1

pub returns-in-None : goal.returns-in-None
returns-in-None g c = listed_none c.args.table.now c.args.host c.in-None.ensures.lookup.3
