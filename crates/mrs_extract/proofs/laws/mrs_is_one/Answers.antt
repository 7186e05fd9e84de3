use Rattle.mrs_extract.proofs.Extracted.{outcome_one}
use Rattle.mrs_extract.proofs.laws.mrs_is_one.Goals as goal

pub returns : goal.returns
returns c = outcome_one c.outcomes_are_one.ensures
