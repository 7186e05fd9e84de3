use Rattle.std.proofs.Common.{◌∙◌, ◌∷◌, [], ap, sym}
use Rattle.std.specs.List.{find}
use Rattle.tdl_reader.specs.Views.{rest_of}
use Rattle.tdl_reader.proofs.Rows.{view_of_closed, view_of_open, view_of_tail}
use Rattle.body_facts.specs.Writing.{list_names}
use Rattle.body_facts.specs.Mentions.{mention, is_unknown, end_mentions}
use Rattle.body_facts.proofs.mentioned.in_end.Goals as goal

pub returns-in-Closed : goal.returns-in-Closed
returns-in-Closed c =
    let n = list_names c.args.names.now in
    c.unless_known.ensures ∙ ap (λ m. find (is_unknown c.args.types.now) (mention c.args.at m ∷ [])) c.deref.ensures
    ∙ sym (ap (λ r. find (is_unknown c.args.types.now) (end_mentions n c.args.at (rest_of r))) c.in-Closed.is ∙ ap (λ r. find (is_unknown c.args.types.now) (end_mentions n c.args.at r)) view_of_closed)

pub returns-in-Open : goal.returns-in-Open
returns-in-Open c =
    let n = list_names c.args.names.now in
    c.unless_known-in-Open.ensures ∙ ap (λ m. find (is_unknown c.args.types.now) (mention c.args.at m ∷ [])) c.deref-in-Open.ensures
    ∙ sym (ap (λ r. find (is_unknown c.args.types.now) (end_mentions n c.args.at (rest_of r))) c.in-Open.is ∙ ap (λ r. find (is_unknown c.args.types.now) (end_mentions n c.args.at r)) view_of_open)

pub returns-in-Tail : goal.returns-in-Tail
returns-in-Tail c =
    let n = list_names c.args.names.now in
    sym (ap (λ r. find (is_unknown c.args.types.now) (end_mentions n c.args.at (rest_of r))) c.in-Tail.is ∙ ap (λ r. find (is_unknown c.args.types.now) (end_mentions n c.args.at r)) (view_of_tail c.in-Tail.body))
