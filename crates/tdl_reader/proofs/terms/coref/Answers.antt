use Rattle.tdl_reader.proofs.Rows.{view_of_coref}
use Rattle.tdl_reader.proofs.terms.coref.Goals as goal

pub returns : goal.returns
returns c = view_of_coref c.args.name c.args.at
