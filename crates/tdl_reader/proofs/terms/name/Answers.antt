use Rattle.tdl_reader.proofs.Rows.{view_of_name}
use Rattle.tdl_reader.proofs.terms.name.Goals as goal

pub returns : goal.returns
returns c = view_of_name c.args.name c.args.at
