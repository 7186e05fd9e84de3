use Rattle.mrs_model.proofs.Sums.{digests_are}
use Rattle.mrs_model.proofs.digest.digests_agree.Goals as goal

pub returns : goal.returns
returns c = digests_are
