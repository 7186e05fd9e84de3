use Rattle.tdl_reader.proofs.Rows.{view_of_closed}
use Rattle.tdl_reader.proofs.terms.closed.Goals as goal

pub returns : goal.returns
returns c = view_of_closed
