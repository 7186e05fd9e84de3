use Rattle.std.proofs.Common.{refl}
use Rattle.forest_unpack.proofs.listing.begin.Goals as goal

pub group_of-requires-clause-members : goal.group_of-requires-clause-members
group_of-requires-clause-members g c = c.requires.plan.members

pub returns : goal.returns
returns g c = record { host_is = refl; told = c.in_ok-group.ensures; next = refl; made = c.new-made.ensures.items }
