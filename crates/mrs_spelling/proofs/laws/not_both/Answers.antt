use Rattle.mrs_spelling.proofs.Placed.{never_both}
use Rattle.mrs_spelling.proofs.laws.not_both.Goals as goal

pub returns : goal.returns
returns c = never_both
