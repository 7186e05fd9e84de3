use Rattle.std.proofs.Common.{◌∙◌, if◌then◌else◌, ap}
use Rattle.std.specs.Str.{bytes_eq}
use Rattle.tree_reading.specs.Inner.Uses.{uses_in, with_use}
use Rattle.tree_reading.proofs.Tabling.{lookup_insert}
use Rattle.tree_reading.proofs.names.note.Goals as goal

pub returns : goal.returns
returns c = λ n.
    let old = c.args.table.now.entries in
    let u = uses_in old n in
    ap (λ es. uses_in es n) c.in_ok-insert.ensures.entries
    ∙ lookup_insert n old c.in_ok-from_str.field-0 c.with_use-uses.result
    ∙ ap (λ m. if bytes_eq n m then c.with_use-uses.result else u) c.in_ok-from_str.ensures.ok
    ∙ ap (λ w. if bytes_eq n c.args.name.now then w else u) (c.with_use-uses.ensures ∙ ap (λ z. with_use z c.args.place c.args.part) c.uses_in.ensures)
