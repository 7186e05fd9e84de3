use Rattle.std.proofs.Common.{subst}
use Rattle.rows.specs.Ready.{IsFit}
use Rattle.rows.proofs.grammars.Ready.answer.Goals as goal

pub parsed-requires-clause-valid : goal.parsed-requires-clause-valid
unfolding IsFit
parsed-requires-clause-valid g c κs within = subst IsFit c.in-Line.is c.requires.fit

pub generated-requires-clause-valid : goal.generated-requires-clause-valid
unfolding IsFit
generated-requires-clause-valid g c κs within = subst IsFit c.in-Mrs.is c.requires.fit
