use Rattle.std.proofs.Common.{◌≡◌, ◌∙◌, sym, ap}
use Rattle.std.specs.Prelude.{encode_utf8_all}
use Rattle.std.proofs.lemmas.Str.{chars_from_encodes}
use Rattle.caseless.specs.Caseless.{default_case_fold}
use Rattle.grammar_load.proofs.fields.folded.Goals as goal

pub returns : goal.returns
returns c =
    let letters = c.args.letters.now in
    let spelled : encode_utf8_all letters ≡ c.as_str.result.now = sym (c.as_str.ensures.value ∙ c.in_ok-text.ensures) in
    c.in_ok-out.ensures ∙ ap (λ l. encode_utf8_all (default_case_fold l)) (sym (chars_from_encodes letters c.as_str.result.now c.as_str.utf8 spelled))
