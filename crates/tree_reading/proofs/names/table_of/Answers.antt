use Rattle.std.proofs.Common.{◌<◌, ◌∙◌, ap, sym, arith, length, map, []}
use Rattle.std.specs.String.{string_bytes}
use Rattle.std.proofs.lemmas.List.{length-map, get_or-map}
use Rattle.std.proofs.lemmas.Option.{unwrap_or-slice_get, slice_get-get_or}
use Rattle.tree_reading.specs.Grammars.{TreeGrammar}
use Rattle.tree_reading.specs.declared.Part.TheVariants.{Entry}
use Rattle.tree_reading.proofs.Tabling.{tabled_more, tabled, tabled_none}
use Rattle.tree_reading.proofs.names.table_of.Goals as goal

pub loop-place-init : goal.loop-place-init
loop-place-init c = tabled_none (record { names = map string_bytes c.args.names.now; parts = c.args.parts.now }) c.new-table.result.entries c.new-table.ensures.empty

pub loop-place-preserved : goal.loop-place-preserved
loop-place-preserved c =
    let g : TreeGrammar = record { names = map string_bytes c.args.names.now; parts = c.args.parts.now } in
    let i = c.loop-place.place in
    let within : i < length c.args.names.now = omega arith in
    tabled_more g c.requires.apart i c.loop-place.table.entries c.note.new.table.entries c.as_str.result.now _
    (c.as_str.ensures.value ∙ ap string_bytes c.index-names-at.is ∙ sym (get_or-map string_bytes c.args.names.now i c.index-names-at.result _ within) ∙ sym (unwrap_or-slice_get (map string_bytes c.args.names.now) i []))
    (slice_get-get_or c.args.parts.now i Entry (omega (arith, c.requires.well.0, length-map c.args.names.now string_bytes)))
    c.loop-place.invariant c.in_ok-note.ensures

pub returns : goal.returns
returns c =
    let g : TreeGrammar = record { names = map string_bytes c.args.names.now; parts = c.args.parts.now } in
    tabled g c.loop-place.place c.loop-place.table.entries (omega (arith, c.requires.well.0, length-map c.args.names.now string_bytes)) c.loop-place.invariant
