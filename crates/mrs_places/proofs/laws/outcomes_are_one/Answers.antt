use Rattle.mrs_places.proofs.OneOutcome.{looks_one}
use Rattle.mrs_places.proofs.laws.outcomes_are_one.Goals as goal

pub returns : goal.returns
returns c = looks_one
