use Rattle.std.proofs.Common.{◌≡◌, ap, subst, map, option_map, IfErr}
use Rattle.tdl_reader.specs.Views.{statement_of}
use Rattle.grammar_settings.specs.SettingsViews.{settings_of}
use Rattle.grammar_files.specs.declared.fault.Why.TheVariants.{Shelf}
use Rattle.grammar_files.specs.Faults.{FoundFault}
use Rattle.grammar_files.proofs.WalkLemmas.{on_fault}
use Rattle.endings.specs.Meanings.{Shelves, shelves, has_failed}
use Rattle.endings.specs.Endings.{NotCome}
use Rattle.transfer_rules.specs.Forms.{AreRules}
use Rattle.command_files.specs.Told.{never}
use Rattle.transfer_commands.specs.Rewriters.{HasRewriter, skipped_by}
use Rattle.transfer_commands.specs.Transferring.{transfer_meaning}
use Rattle.transfer_commands.specs.Views.{rewriter_of}
use Rattle.transfer_commands.specs.Inner.{IsToldIn, IsOutOfForm}
use Rattle.transfer_commands.proofs.Answered.{if-both}
use Rattle.transfer_commands.proofs.Exits.{if-err, not-read, not-rules}
use Rattle.transfer_commands.proofs.loading.load.Goals as goal

pub returns-in-Ok-clause-rewriter : goal.returns-in-Ok-clause-rewriter
returns-in-Ok-clause-rewriter g c =
    let files = g.S.Shelf.files c.args.shelf.now in
    let name = c.args.command.now.rules.now in
    let settings = option_map (λ s. s.now) c.args.command.now.settings in
    let ss = map statement_of c.in-Ok.said.statements.items in
    let t = settings_of c.in-Ok.said.settings in
    if-both c.transferrer_of.result
    (λ r. AreRules ss (rewriter_of r).rules)
    (λ r. (rewriter_of r).skipped ≡ skipped_by t.transfer_skip (rewriter_of r).rules)
    (λ r. HasRewriter files name settings (rewriter_of r))
    (λ r are skipped. record { settled = t; statements = ss; settings_are = c.in-Ok.ensures.settled never; says = c.in-Ok.ensures.says never; rules_are = are; skipped_are = skipped })
    c.transferrer_of.ensures.rules c.transferrer_of.ensures.skipped

pub returns-in-Ok-clause-fault : goal.returns-in-Ok-clause-fault
returns-in-Ok-clause-fault g c =
    let S = g.S.Shelf in
    let h : Shelves = shelves S.files S.faults S.asked c.args.shelf.now c.transferrer_of.new.shelf in
    let verbose = c.args.command.now.verbose in
    let name = c.args.command.now.rules.now in
    let settings = option_map (λ s. s.now) c.args.command.now.settings in
    let ss = map statement_of c.in-Ok.said.statements.items in
    let t = settings_of c.in-Ok.said.settings in
    if-err c.transferrer_of.result (IsOutOfForm verbose h.files name ss) (NotCome (transfer_meaning name settings verbose) h)
    (λ end x. not-rules h name settings verbose t ss end (c.in-Ok.ensures.settled (has_failed h)) (c.in-Ok.ensures.says (has_failed h)) x)
    (subst (λ files. IfErr c.transferrer_of.result (IsOutOfForm verbose files name ss)) c.read_files.ensures.same c.transferrer_of.ensures.fault)

pub returns-in-Err-clause-fault : goal.returns-in-Err-clause-fault
returns-in-Err-clause-fault g c =
    let S = g.S.Shelf in
    let h : Shelves = shelves S.files S.faults S.asked c.args.shelf.now c.told.new.shelf in
    let mid = S.faults c.read_files.new.shelf in
    let asked = S.asked c.read_files.new.shelf in
    let verbose = c.args.command.now.verbose in
    let still = on_fault (λ (f : FoundFault). f.why ≡ Shelf → c.told.new.shelf ≡ c.read_files.new.shelf) (λ (f : FoundFault). f.why ≡ Shelf → (h.faults_new ≡ mid) × (h.asked_new ≡ asked)) c.in-Err.fault (λ f x e. (ap S.faults (x e), ap S.asked (x e))) c.told.ensures.still in
    not-read h mid asked c.args.command.now.rules.now (option_map (λ s. s.now) c.args.command.now.settings) verbose c.in-Err.fault c.told.result c.in-Err.ensures.fault still
    (subst (λ files. IsToldIn verbose files c.in-Err.fault c.told.result) c.read_files.ensures.same c.told.ensures.told)
