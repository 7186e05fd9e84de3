use Rattle.std.proofs.Common.{◌<◌, ◌∙◌, ap, sym, arith, length}
use Rattle.std.specs.String.{string_bytes}
use Rattle.std.proofs.lemmas.List.{length-map, get_or-map}
use Rattle.type_hierarchy.specs.Decls.{texts}
use Rattle.type_hierarchy.proofs.PlaceLemmas.{places_more}
use Rattle.body_facts.proofs.lookup.places_of.Goals as goal

pub loop-place-preserved : goal.loop-place-preserved
loop-place-preserved c =
    let within : c.loop-place.place < length c.args.names.now = omega arith in
    places_more c.loop-place.places.entries c.note.new.places.entries (texts c.args.names.now) c.loop-place.place c.as_str.result.now
    (omega (arith, length-map c.args.names.now string_bytes))
    (c.as_str.ensures.value ∙ ap string_bytes c.index-names-place.is ∙ sym (get_or-map string_bytes c.args.names.now c.loop-place.place c.index-names-place.result _ within)) c.in_ok-note.ensures c.loop-place.invariant
