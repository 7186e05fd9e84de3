use Rattle.std.proofs.Common.{◌∙◌, sym}
use Rattle.std.proofs.Common.{ap}
use Rattle.std.specs.Str.{bytes_eq}
use Rattle.std.specs.String.{string_bytes}
use Rattle.std.specs.List.{list_any}
use Rattle.grammar_types.proofs.SettleLists.{note_old, note_new}
use Rattle.grammar_types.proofs.strings.note.Goals as goal

pub returns-in_ok-insert : goal.returns-in_ok-insert
returns-in_ok-insert c =
    note_new c.args.found.now.keys c.insert.new.self.keys c.in_ok-clone.field-0 (string_bytes c.args.text.now) c.in_ok-clone.ensures.cases
    (ap (λ n. list_any (λ k. bytes_eq n (string_bytes k)) c.args.found.now.keys) (sym c.as_str.ensures.value) ∙ sym c.contains.ensures ∙ c.if-not-contains.true)
    c.in_ok-insert.ensures.keys

pub returns-else-not-contains : goal.returns-else-not-contains
returns-else-not-contains c =
    note_old c.args.found.now.keys (string_bytes c.args.text.now)
    (ap (λ n. list_any (λ k. bytes_eq n (string_bytes k)) c.args.found.now.keys) (sym c.as_str.ensures.value) ∙ sym c.contains.ensures ∙ c.if-not-contains.false)
