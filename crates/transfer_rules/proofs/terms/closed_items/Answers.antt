use Rattle.std.proofs.Common.{◌∙◌, ap, map, sym}
use Rattle.tdl_reader.specs.Trees.{items_of}
use Rattle.tdl_reader.specs.Views.{body_in, rest_of}
use Rattle.tdl_reader.proofs.Rows.{view_of_closed, view_of_open, view_of_tail}
use Rattle.transfer_rules.specs.Inner.Terms.{closed_items}
use Rattle.transfer_rules.proofs.terms.closed_items.Goals as goal

pub returns-in-Closed : goal.returns-in-Closed
returns-in-Closed c = let l = items_of (map body_in c.args.items.now.items) in sym (ap (λ r. closed_items l (rest_of r)) c.in-Closed.is ∙ ap (closed_items l) view_of_closed)

pub returns-in-Open : goal.returns-in-Open
returns-in-Open c = let l = items_of (map body_in c.args.items.now.items) in sym (ap (λ r. closed_items l (rest_of r)) c.in-Open.is ∙ ap (closed_items l) view_of_open)

pub returns-in-Tail : goal.returns-in-Tail
returns-in-Tail c = let l = items_of (map body_in c.args.items.now.items) in sym (ap (λ r. closed_items l (rest_of r)) c.in-Tail.is ∙ ap (closed_items l) (view_of_tail c.in-Tail.body))
