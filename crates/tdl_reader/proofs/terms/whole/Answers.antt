use Rattle.std.proofs.Common.{◌∙◌}
use Rattle.tdl_reader.proofs.Rows.{body_roll, view_of_body}
use Rattle.tdl_reader.proofs.terms.whole.Goals as goal

pub returns-clause-found : goal.returns-clause-found
returns-clause-found c = body_roll c.add.new.list ∙ view_of_body c.args.terms.items c.add.new.list.items c.args.last c.in_ok-add.ensures.found
