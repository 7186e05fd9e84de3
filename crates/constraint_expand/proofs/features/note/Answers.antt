use Rattle.std.proofs.Common.{◌∙◌, sym}
use Rattle.constraint_expand.proofs.NameLemmas.{note_old, note_new}
use Rattle.constraint_expand.proofs.features.note.Goals as goal

pub returns-in_ok-insert : goal.returns-in_ok-insert
returns-in_ok-insert c =
    note_new c.args.features.now.keys c.insert.new.self.keys c.in_ok-from_str.field-0 c.args.feature.now c.in_ok-from_str.ensures.ok
    (sym c.contains.ensures ∙ c.if-not-contains.true) c.in_ok-insert.ensures.keys

pub returns-else-not-contains : goal.returns-else-not-contains
returns-else-not-contains c = note_old c.args.features.now.keys c.args.feature.now (sym c.contains.ensures ∙ c.if-not-contains.false)
