use Rattle.tdl_reader.proofs.Rows.{view_of_avm}
use Rattle.tdl_reader.proofs.terms.avm.Goals as goal

pub returns : goal.returns
returns c = view_of_avm c.args.attrs c.args.at
