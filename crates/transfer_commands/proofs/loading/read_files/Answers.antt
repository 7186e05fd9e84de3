use Rattle.std.proofs.Common.{Bool, option_map, subst, Err}
use Rattle.grammar_settings.specs.Forms.{Name}
use Rattle.grammar_settings.specs.SettingsViews.{settings_of}
use Rattle.grammar_files.specs.Walks.{has_failed, Says, IsSettled}
use Rattle.grammar_files.specs.TextViews.{Covers}
use Rattle.grammar_files.proofs.WalkLemmas.{at_exit, on_fault, covers_later}
use Rattle.transfer_commands.specs.Faults.{IsUnread, unsettled, unsaid}
use Rattle.transfer_commands.proofs.loading.read_files.Goals as goal

pub returns-in_err-settings-clause-fault : goal.returns-in_err-settings-clause-fault
returns-in_err-settings-clause-fault g c =
    let files = g.S.Shelf.files c.args.shelf.now in
    let settings = option_map (λ n. n.now) c.args.settings in
    let old = g.S.Shelf.faults c.args.shelf.now in
    let new = g.S.Shelf.faults c.read_settings.new.shelf in
    let asked = g.S.Shelf.asked c.read_settings.new.shelf in
    at_exit _ c.from_residual.result c.in_err-settings.field-0.0 c.from_residual.ensures.1
    (on_fault (λ f. (fails : Name → Bool) → Covers old new asked fails → IsSettled files fails settings (Err f)) (IsUnread c.args.name.now settings files (has_failed old new asked)) c.in_err-settings.field-0.0
    (λ f h. unsettled f (h (has_failed old new asked) (λ name k. k))) c.in_err-settings.ensures.fault)

pub returns-in_err-statements-clause-fault : goal.returns-in_err-statements-clause-fault
returns-in_err-statements-clause-fault g c =
    let files = g.S.Shelf.files c.args.shelf.now in
    let settings = option_map (λ n. n.now) c.args.settings in
    let old = g.S.Shelf.faults c.args.shelf.now in
    let mid = g.S.Shelf.faults c.read_settings.new.shelf in
    let new = g.S.Shelf.faults c.said.new.shelf in
    let asked = g.S.Shelf.asked c.said.new.shelf in
    let fails = has_failed old new asked in
    at_exit _ c.from_residual-in_err-statements.result c.in_err-statements.field-0.0 c.from_residual-in_err-statements.ensures.1
    (on_fault (λ f. (p : Name → Bool) → Covers mid new asked p → Says (g.S.Shelf.files c.read_settings.new.shelf) p c.args.name.now (Err f)) (IsUnread c.args.name.now settings files fails) c.in_err-statements.field-0.0
    (λ f h. unsaid (settings_of c.in_ok-settings.settings) f (c.in_ok-settings.ensures.settled fails)
    (subst (λ there. Says there fails c.args.name.now (Err f)) c.read_settings.ensures.same (h fails (covers_later old mid new asked fails c.read_settings.ensures.no_fall (λ name k. k)))))
    c.in_err-statements.ensures.fault)
