use Rattle.std.proofs.Common.{◌≡◌, ◌++◌, ◌∷◌, take, map, sym, ap, ◌∙◌, append_assoc, arith}
use Rattle.std.proofs.lemmas.Grind.{common_steps}
use Rattle.std.specs.List.{flat_map, join_with_byte}
use Rattle.std.specs.String.{string_bytes}
use Rattle.derivation.specs.Text.{escaped}
use Rattle.derivation.proofs.Fronts.{on_err, front_byte, front_beyond}
use Rattle.derivation.proofs.Texts.{escaped_join}
use Rattle.derivation.proofs.text.put_joined.Goals as goal

pub returns-in_err-put_word-2-clause-err : goal.returns-in_err-put_word-2-clause-err
returns-in_err-put_word-2-clause-err c =
    on_err _ (front_beyond _ _ _ _ c.in_ok-put_word.ensures.ok (front_byte _ _ _ _ _ _ c.loop-word.invariant c.in_ok-push.ensures.items c.in_err-put_word-2.ensures.err))

pub returns-clause-ok : goal.returns-clause-ok
returns-clause-ok c =
    let whole : take c.loop-word.word-index c.in-Some.more.now ≡ c.in-Some.more.now = grind (arith, common_steps) in
    let old = c.args.into.now.items in
    let more = flat_map (λ w. 32 ∷ flat_map escaped (string_bytes w)) c.in-Some.more.now in
    let first : c.put_word.new.into.items ≡ old ++ flat_map escaped (string_bytes c.in-Some.word.now) = cc (c.in_ok-put_word.ensures.ok) in
    c.loop-word.invariant ∙ ap (λ zs. c.put_word.new.into.items ++ flat_map (λ w. 32 ∷ flat_map escaped (string_bytes w)) zs) whole
    ∙ ap (λ zs. zs ++ more) first ∙ append_assoc old (flat_map escaped (string_bytes c.in-Some.word.now)) more
    ∙ ap (λ zs. old ++ zs) (sym (escaped_join c.in-Some.word.now c.in-Some.more.now))
    ∙ ap (λ ws. old ++ flat_map escaped (join_with_byte 32 (map string_bytes ws))) (sym c.in-Some.ensures.cases.0)
