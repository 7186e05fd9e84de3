use Rattle.tdl_reader.proofs.Rows.{view_of_diff}
use Rattle.tdl_reader.proofs.terms.diff.Goals as goal

pub returns : goal.returns
returns c = view_of_diff c.args.items c.args.at
