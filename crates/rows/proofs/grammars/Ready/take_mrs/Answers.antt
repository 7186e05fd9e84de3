use Rattle.rows.specs.Ready.{IsFit}
use Rattle.rows.proofs.grammars.Ready.take_mrs.Goals as goal

pub show_asked-requires-clause-fit : goal.show_asked-requires-clause-fit
unfolding IsFit
show_asked-requires-clause-fit g c κs within = c.in-Ok.ensures.valid
