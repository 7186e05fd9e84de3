use Rattle.std.proofs.Common.{length}
use Rattle.forest_unpack.proofs.listing.+first_lacking.Given as goal

abbrev pub decreases-first_lacking : goal.decreases-first_lacking
decreases-first_lacking g l = length l.hosts.now
