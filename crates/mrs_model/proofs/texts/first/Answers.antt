use Rattle.std.proofs.Common.{◌+◌, length, sym, ◌∙◌, ap, length-append}
use Rattle.std.proofs.lemmas.Str.{chars_past_char, length-encode}
use Rattle.mrs_model.proofs.texts.first.Goals as goal

-- the text is the first character and what is left
pub returns-clause-parts : goal.returns-clause-parts
returns-clause-parts c =
    let e = c.in_ok-c.ensures.steps in
    rw c.as_str.ensures (chars_past_char _ _ _ c.utf8.text (sym c.chars-rest.ensures.rest ∙ e.0))

pub returns-clause-size : goal.returns-clause-size
returns-clause-size c =
    let e = c.in_ok-c.ensures.steps in
    rw c.as_str.ensures (ap length (sym c.chars-rest.ensures.rest ∙ e.0) ∙ length-append _ _ ∙ ap (λ n. n + length c.next.new.self.rest.now) (length-encode c.in_ok-c.c))
