use Rattle.tdl_reader.proofs.Rows.{view_of_tail}
use Rattle.tdl_reader.proofs.terms.tail.Goals as goal

pub returns : goal.returns
returns c = view_of_tail c.args.body
