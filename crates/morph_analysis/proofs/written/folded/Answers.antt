use Rattle.std.proofs.Common.{◌≡◌, ◌∙◌, ◌++◌, [], ◌∷◌, take, sym, ap}
use Rattle.std.specs.Char.{encode_utf8}
use Rattle.std.specs.Prelude.{encode_utf8_all}
use Rattle.morph_analysis.proofs.Lists.{all_taken, take_next}
use Rattle.std.proofs.lemmas.Str.{encodes-append, chars_from_encodes}
use Rattle.caseless.specs.Caseless.{default_case_fold}
use Rattle.std.proofs.lemmas.List.{append-nil}
use Rattle.morph_analysis.proofs.written.folded.Goals as goal

pub loop-c-preserved : goal.loop-c-preserved
loop-c-preserved c =
    let done = take c.loop-c.c-index c.args.letters.now in
    c.in_ok-push.ensures.bytes ∙ ap (λ l. l ++ encode_utf8 c.c-item.result) c.loop-c.invariant
    ∙ sym (ap encode_utf8_all (take_next c.args.letters.now c.loop-c.c-index c.c-item.result c.loop-c-test.true c.c-item.is) ∙ encodes-append done (c.c-item.result ∷ []) ∙ ap (λ l. encode_utf8_all done ++ l) (append-nil (encode_utf8 c.c-item.result)))

pub returns : goal.returns
returns c =
    let letters = c.args.letters.now in
    let spelled : encode_utf8_all letters ≡ c.as_str.result.now = sym (c.as_str.ensures.value ∙ c.loop-c.invariant ∙ ap encode_utf8_all (all_taken letters c.loop-c.c-index c.loop-c-test.false)) in
    c.in_ok-out.ensures ∙ ap (λ l. encode_utf8_all (default_case_fold l)) (sym (chars_from_encodes letters c.as_str.result.now c.as_str.utf8 spelled))
