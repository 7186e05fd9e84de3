use Rattle.mrs_reading.proofs.Placed.{one-place}
use Rattle.mrs_reading.proofs.laws.one_place.Goals as goal

pub returns : goal.returns
returns c = one-place
