use Rattle.std.proofs.Common.{◌≡◌, ◌∙◌, map, option_map, string_bytes, IfOk, sym, ap, subst}
use Rattle.std.specs.Str.{chars}
use Rattle.grammar_settings.specs.SettingsFiles.{words}
use Rattle.spelling_rules.specs.Views.{line_of}
use Rattle.grammar_load.proofs.LineLemmas.{no_line, fields_line}
use Rattle.grammar_load.proofs.irregular.line_says.Goals as goal

pub returns-in_default : goal.returns-in_default
returns-in_default c = no_line (map string_bytes c.args.rules.now) c.args.line.now c.in_default.ensures.cases.0

pub returns : goal.returns
returns c =
    let said =
    fields_line (map string_bytes c.args.rules.now) c.args.line.now c.in_ok-letters.letters.items (map (λ w. w.now) c.deref-2.result.now) c.in-Ok.ensures.cases.1 (sym c.is_comment.ensures ∙ c.if-is_comment.false)
    (c.in_ok-letters.ensures ∙ ap chars c.in-Ok.ensures.cases.0)
    (ap (map (λ w. w.now)) c.deref-2.ensures.value ∙ c.in_ok-fields.ensures ∙ ap words c.deref.ensures.value) in
    subst (λ t. IfOk c.line_in.result (λ o. option_map line_of o ≡ t)) said c.line_in.ensures
