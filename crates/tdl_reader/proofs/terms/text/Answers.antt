use Rattle.tdl_reader.proofs.Rows.{view_of_text}
use Rattle.tdl_reader.proofs.terms.text.Goals as goal

pub returns : goal.returns
returns c = view_of_text c.args.text c.args.at
