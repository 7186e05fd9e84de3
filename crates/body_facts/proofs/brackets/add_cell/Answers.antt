use Rattle.std.proofs.Common.{◌∙◌, ◌++◌, ◌∷◌, ◌<◌, [], length, map, ap, sym}
use Rattle.body_facts.specs.Writing.{list_names}
use Rattle.body_facts.specs.BracketUses.{used_of, used}
use Rattle.body_facts.proofs.Appended.{on_then}
use Rattle.body_facts.proofs.BracketLemmas.{cell_full, filled}
use Rattle.body_facts.proofs.brackets.add_cell.Goals as goal

pub returns-in_ok-note : goal.returns-in_ok-note
returns-in_ok-note c =
    let n = list_names c.args.names.now in
    let some : 0 < length c.args.items.now.items = filled c.args.items.now.items _ c.args.items.now.ok.0 (sym c.is_empty.ensures ∙ c.if-is_empty.false) in
    on_then _ _ _ (map used_of c.args.found.now.items) (used c.args.at c.args.own n.first ∷ []) (used c.args.at c.args.own c.deref-else-is_empty.result.now ∷ []) _
    (c.in_ok-note.ensures ∙ ap (λ m. map used_of c.args.found.now.items ++ used c.args.at c.args.own m ∷ []) c.deref.ensures)
    (ap (λ m. used c.args.at c.args.own n.first ∷ used c.args.at c.args.own m ∷ []) c.deref-else-is_empty.ensures ∙ sym (cell_full n c.args.at c.args.own c.args.items.now.items some))
    c.note-else-is_empty.ensures
