use Rattle.tdl_reader.proofs.Rows.{view_of_open}
use Rattle.tdl_reader.proofs.terms.open_end.Goals as goal

pub returns : goal.returns
returns c = view_of_open
