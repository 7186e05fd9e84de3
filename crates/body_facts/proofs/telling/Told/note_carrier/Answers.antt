use Rattle.std.proofs.Common.{◌≡◌, ◌∙◌, ◌++◌, ◌∷◌, [], None, map, ap, sym, subst}
use Rattle.std.proofs.lemmas.List.{map-append}
use Rattle.std.specs.Map.{lookup}
use Rattle.std.specs.Str.{bytes_eq}
use Rattle.std.specs.String.{string_bytes, string_eq}
use Rattle.indexmap.proofs.CallerLemmas.{insert_entry-new}
use Rattle.fs_graph.specs.Facts.{path_of}
use Rattle.body_facts.specs.Running.{carrier_of}
use Rattle.body_facts.proofs.CarrierLemmas.{no_entry, same_carrier}
use Rattle.body_facts.proofs.telling.Told.note_carrier.Goals as goal

pub returns-clause-carriers : goal.returns-clause-carriers
returns-clause-carriers c =
    let had = c.args.self.now.carriers.entries in
    let key = c.in_ok-from_str.field-0 in
    let here = c.in_ok-here.here in
    let fresh : lookup (λ k. bytes_eq (string_bytes key) (string_bytes k)) had ≡ None =
    subst (λ m. lookup (λ k. bytes_eq m (string_bytes k)) had ≡ None) (sym c.in_ok-from_str.ensures.ok) (no_entry had c.args.name.now c.requires) in
    ap (map carrier_of) (c.in_ok-insert.ensures.entries ∙ insert_entry-new string_eq c.args.self.now.carriers key here fresh)
    ∙ map-append carrier_of had ((key, here) ∷ [])
    ∙ ap (λ k. map carrier_of had ++ k ∷ []) (same_carrier (string_bytes key) c.args.name.now (path_of here.items) (path_of c.args.self.now.path.items) c.in_ok-from_str.ensures.ok (ap path_of c.in_ok-here.ensures))
