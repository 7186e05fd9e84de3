use Rattle.std.proofs.Common.{◌<◌, ◌+◌, ◌∙◌, [], ap, sym, arith, length, slice_index_or, length-drop, get_or-drop}
use Rattle.type_hierarchy.specs.Table.{completed_count}
use Rattle.type_hierarchy.proofs.PlaceLemmas.{places_more}
use Rattle.body_facts.specs.Numbers.{strings_of}
use Rattle.body_facts.proofs.lookup.places_of_strings.Goals as goal

pub loop-place-preserved : goal.loop-place-preserved
loop-place-preserved c =
    let types = c.args.types.now in
    let within : c.loop-place.place < length (strings_of types) =
    omega (arith, length-drop (completed_count types) types.names, c.counts-counts.ensures.completed, c.counts-counts.ensures.all, c.loop-place-test.true) in
    places_more c.loop-place.places.entries c.note.new.places.entries (strings_of types) c.loop-place.place c.name-text.result.now within
    (c.name-text.ensures ∙ ap (λ k. slice_index_or types.names (k + c.loop-place.place) []) c.counts-counts.ensures.completed ∙ sym (get_or-drop (completed_count types) types.names c.loop-place.place []))
    c.in_ok-note.ensures c.loop-place.invariant
