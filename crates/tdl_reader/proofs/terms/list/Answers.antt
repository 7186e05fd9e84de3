use Rattle.tdl_reader.proofs.Rows.{view_of_list}
use Rattle.tdl_reader.proofs.terms.list.Goals as goal

pub returns : goal.returns
returns c = view_of_list c.args.items c.args.rest c.args.at
