use Rattle.std.proofs.Common.{◌≡◌, ◌∙◌, ap, sym, subst, None}
use Rattle.std.specs.String.{string_bytes, string_eq}
use Rattle.indexmap.proofs.CallerLemmas.{insert_entry-new}
use Rattle.type_hierarchy.specs.Named.{noted}
use Rattle.type_hierarchy.proofs.PlaceLemmas.{noted_push, none_of}
use Rattle.body_facts.proofs.lookup.note.Goals as goal

pub returns-in_ok-insert : goal.returns-in_ok-insert
returns-in_ok-insert c = λ n.
    let absent : noted c.args.places.now.entries c.args.name.now ≡ None = none_of _ (sym c.contains_key.ensures ∙ c.if-not-contains_key.true) in
    let fresh : noted c.args.places.now.entries (string_bytes c.in_ok-from_str.field-0) ≡ None =
    subst (λ m. noted c.args.places.now.entries m ≡ None) (sym c.in_ok-from_str.ensures.ok) absent in
    ap (λ es. noted es n) (c.in_ok-insert.ensures.entries ∙ insert_entry-new string_eq c.args.places.now c.in_ok-from_str.field-0 c.args.place fresh)
    ∙ noted_push c.args.places.now.entries c.in_ok-from_str.field-0 c.args.place n c.args.name.now c.in_ok-from_str.ensures.ok
