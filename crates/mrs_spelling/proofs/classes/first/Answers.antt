use Rattle.std.proofs.Common.{sym, ◌∙◌}
use Rattle.std.proofs.lemmas.Str.{chars_past_char}
use Rattle.mrs_spelling.proofs.classes.first.Goals as goal

-- the text is the first character and what is left
pub returns-clause-parts : goal.returns-clause-parts
returns-clause-parts c =
    let e = c.in_ok-c.ensures.steps in
    rw c.as_str.ensures (chars_past_char _ _ _ c.utf8.text (sym c.chars-rest.ensures.rest ∙ e.0))
