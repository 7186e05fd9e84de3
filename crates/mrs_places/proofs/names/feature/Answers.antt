use Rattle.std.proofs.Common.{◌≡◌, ◌<◌, ◌∙◌, [], true, false, length, slice_index_or, sym, ap, arith, string_bytes}
use Rattle.std.specs.Str.{bytes_eq}
use Rattle.std.proofs.lemmas.List.{length-map}
use Rattle.type_hierarchy.specs.Decls.{texts}
use Rattle.mrs_places.proofs.Numbers.{text_at, place_found, place_missing, none_more}
use Rattle.mrs_places.proofs.names.feature.Goals as goal

pub returns-then-eq : goal.returns-then-eq
returns-then-eq c =
    let xs = c.args.feats.now in
    let i = c.loop-i.i in
    let within : i < length xs = omega arith in
    let within' : i < length (texts xs) = omega (arith, length-map xs string_bytes) in
    let n = string_bytes c.args.name.now in
    let here : bytes_eq n (slice_index_or (texts xs) i []) ≡ true =
    ap (bytes_eq n) (text_at xs i c.index-feats-i.result within c.index-feats-i.is ∙ sym c.as_str-in-loop-i.ensures.value) ∙ ap (λ a. bytes_eq a c.as_str-in-loop-i.result.now) (sym c.as_str.ensures.value)
    ∙ sym c.eq.ensures ∙ c.if-eq.true in
    sym (place_found (bytes_eq n) (texts xs) i within' c.loop-i.invariant here)

pub loop-i-preserved : goal.loop-i-preserved
loop-i-preserved c =
    let xs = c.args.feats.now in
    let i = c.loop-i.i in
    let within : i < length xs = omega arith in
    let n = string_bytes c.args.name.now in
    let here : bytes_eq n (slice_index_or (texts xs) i []) ≡ false =
    ap (bytes_eq n) (text_at xs i c.index-feats-i.result within c.index-feats-i.is ∙ sym c.as_str-in-loop-i.ensures.value) ∙ ap (λ a. bytes_eq a c.as_str-in-loop-i.result.now) (sym c.as_str.ensures.value)
    ∙ sym c.eq.ensures ∙ c.if-eq.false in
    none_more (bytes_eq n) (texts xs) i c.loop-i.invariant here

pub returns : goal.returns
returns c =
    let xs = c.args.feats.now in
    sym (place_missing (bytes_eq (string_bytes c.args.name.now)) (texts xs) (λ j h. c.loop-i.invariant j (omega (arith, h, length-map xs string_bytes))))
