use Rattle.std.proofs.Common.{◌≡◌, ◌∙◌, sym, ap}
use Rattle.std.specs.Prelude.{encode_utf8_all}
use Rattle.std.specs.Str.{chars}
use Rattle.std.proofs.lemmas.Str.{chars_from_encodes}
use Rattle.caseless.specs.Caseless.{default_case_fold}
use Rattle.item_reports.proofs.sentence.folded_text.Goals as goal

pub returns : goal.returns
returns c =
    let same : chars c.as_str.result.now ≡ c.args.letters.now = sym (chars_from_encodes c.args.letters.now c.as_str.result.now c.as_str.utf8 (sym (c.as_str.ensures.value ∙ c.in_ok-text.ensures))) in
    c.in_ok-folded.ensures ∙ ap (λ cs. encode_utf8_all (default_case_fold cs)) same
