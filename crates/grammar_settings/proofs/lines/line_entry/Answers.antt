use Rattle.std.proofs.Common.{ap, sym, ◌∙◌, ◌≡◌, ◌⊎◌, inr, refl, subst, map, IfOk, IfErr, Some, None, option_map}
use Rattle.std.specs.Str.{chars}
use Rattle.grammar_settings.specs.Kept.{entry_in}
use Rattle.grammar_settings.specs.SettingsFiles.{entry_of, line_gives, words}
use Rattle.grammar_settings.specs.declared.settings.SettingsFault.TheVariants.{Line, NoMemory}
use Rattle.grammar_settings.proofs.LineLemmas.{gives_no_utf8, gives_comment, gives_words}
use Rattle.grammar_settings.proofs.lines.line_entry.Goals as goal

pub returns-in_default-clause-fault : goal.returns-in_default-clause-fault
returns-in_default-clause-fault c = inr (refl, gives_no_utf8 c.args.number c.args.line.now c.in_default.ensures.cases.0)

pub returns-then-is_comment-clause-given : goal.returns-then-is_comment-clause-given
returns-then-is_comment-clause-given c = gives_comment c.args.number c.args.line.now c.in-Ok.ensures.cases.1 (sym c.is_comment.ensures ∙ c.if-is_comment.true)

same : (c : goal.After-drop-chars-2) → line_gives c.args.number c.args.line.now ≡ entry_of c.args.number (map (λ w. w.now) c.deref-2.result.now)
same c =
    gives_words c.args.number c.args.line.now c.in_ok-chars.chars.items (map (λ w. w.now) c.deref-2.result.now) c.in-Ok.ensures.cases.1 (sym c.is_comment.ensures ∙ c.if-is_comment.false)
    (c.in_ok-chars.ensures ∙ ap chars c.in-Ok.ensures.cases.0)
    (ap (map (λ w. w.now)) c.deref-2.ensures.value ∙ c.in_ok-words.ensures ∙ ap words c.deref.ensures.value)

pub returns-clause-given : goal.returns-clause-given
returns-clause-given c = subst (λ t. IfOk c.entry_of.result (λ x. t ≡ Some (option_map entry_in x))) (sym (same c)) c.entry_of.ensures.given

pub returns-clause-fault : goal.returns-clause-fault
returns-clause-fault c = subst (λ t. IfErr c.entry_of.result (λ e. (e ≡ NoMemory) ⊎ ((e ≡ Line c.args.number) × (t ≡ None)))) (sym (same c)) c.entry_of.ensures.fault
