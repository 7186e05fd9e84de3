use Rattle.std.proofs.Common.{◌≡◌, ◌∙◌, ◌+◌, ◌++◌, [], ◌∷◌, take, sym, ap}
use Rattle.grammar_load.proofs.GatherLemmas.{take_next}
use Rattle.std.specs.Prelude.{encode_utf8_all}
use Rattle.std.proofs.lemmas.Str.{encodes-append}
use Rattle.std.proofs.lemmas.List.{append-nil}
use Rattle.std.specs.Char.{encode_utf8}
use Rattle.grammar_load.proofs.fields.text_of.Goals as goal

pub loop-letter-preserved : goal.loop-letter-preserved
loop-letter-preserved c =
    let done = take c.loop-letter.letter-index c.args.letters.now in
    c.in_ok-push.ensures.bytes ∙ ap (λ l. l ++ encode_utf8 c.letter-item.result) c.loop-letter.invariant
    ∙ sym (ap encode_utf8_all (take_next c.args.letters.now c.loop-letter.letter-index c.letter-item.result c.loop-letter-test.true c.letter-item.is) ∙ encodes-append done (c.letter-item.result ∷ []) ∙ ap (λ l. encode_utf8_all done ++ l) (append-nil (encode_utf8 c.letter-item.result)))
