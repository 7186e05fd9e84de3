use Rattle.std.proofs.Common.{◌≡◌, ◌<◌, ◌∙◌, [], true, false, length, map, get_or, sym, ap, arith, string_bytes}
use Rattle.std.specs.Str.{bytes_eq}
use Rattle.std.proofs.lemmas.List.{length-map}
use Rattle.grammar_load.proofs.PlaceLemmas.{text_at, place_found, place_missing, none_more}
use Rattle.grammar_load.proofs.fields.place_of.Goals as goal

pub returns-then-eq : goal.returns-then-eq
returns-then-eq c =
    let xs = c.args.names.now in
    let i = c.loop-i.i in
    let within : i < length xs = omega arith in
    let within' : i < length (map string_bytes xs) = omega (arith, length-map xs string_bytes) in
    let n = c.args.name.now in
    let here : bytes_eq n (get_or (map string_bytes xs) i []) ≡ true = ap (bytes_eq n) (text_at xs i c.index-names-i.result within c.index-names-i.is ∙ sym c.as_str.ensures.value) ∙ sym c.eq.ensures ∙ c.if-eq.true in
    sym (place_found (bytes_eq n) (map string_bytes xs) i within' c.loop-i.invariant here)

pub loop-i-preserved : goal.loop-i-preserved
loop-i-preserved c =
    let xs = c.args.names.now in
    let i = c.loop-i.i in
    let within : i < length xs = omega arith in
    let n = c.args.name.now in
    let here : bytes_eq n (get_or (map string_bytes xs) i []) ≡ false = ap (bytes_eq n) (text_at xs i c.index-names-i.result within c.index-names-i.is ∙ sym c.as_str.ensures.value) ∙ sym c.eq.ensures ∙ c.if-eq.false in
    none_more (bytes_eq n) (map string_bytes xs) i c.loop-i.invariant here

pub returns : goal.returns
returns c =
    let xs = c.args.names.now in
    sym (place_missing (bytes_eq c.args.name.now) (map string_bytes xs) (λ j h. c.loop-i.invariant j (omega (arith, h, length-map xs string_bytes))))
