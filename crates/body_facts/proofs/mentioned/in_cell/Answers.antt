use Rattle.std.proofs.Common.{◌∙◌, ◌∷◌, ◌<◌, [], length, ap, sym}
use Rattle.std.specs.List.{find}
use Rattle.body_facts.specs.Writing.{list_names}
use Rattle.body_facts.specs.Mentions.{mention, is_unknown}
use Rattle.body_facts.proofs.BracketLemmas.{filled}
use Rattle.body_facts.proofs.MentionLemmas.{cell_named}
use Rattle.body_facts.proofs.mentioned.in_cell.Goals as goal

pub returns-else-is_empty : goal.returns-else-is_empty
returns-else-is_empty c =
    let some : 0 < length c.args.items.now.items = filled c.args.items.now.items _ c.args.items.now.ok.0 (sym c.is_empty.ensures ∙ c.if-is_empty.false) in
    c.unless_known.ensures ∙ ap (λ m. find (is_unknown c.args.types.now) (mention c.args.at m ∷ [])) c.deref.ensures
    ∙ sym (ap (find (is_unknown c.args.types.now)) (cell_named (list_names c.args.names.now) c.args.at c.args.items.now.items some))
