use Rattle.std.proofs.Common.{sym, subst}
use Rattle.grammar_files.proofs.TextLemmas.{unheld}
use Rattle.grammar_files.specs.TextViews.{IsShelfFault}
use Rattle.endings.specs.Meanings.{Shelves, shelves}
use Rattle.command_files.specs.Shown.{AreShown}
use Rattle.command_files.specs.Told.{IsToldBy}
use Rattle.command_files.specs.Texts.{LacksText}
use Rattle.command_files.proofs.TextLemmas.{shelf_lacks}
use Rattle.command_files.proofs.load_text.Goals as goal

pub returns-in-Err-clause-fault : goal.returns-in-Err-clause-fault
returns-in-Err-clause-fault g c =
    let S = g.S.Shelf in
    let name = c.args.name.now in
    let verbose = c.args.verbose in
    let fault = c.in-Err.fault in
    let end = c.text_fault.result in
    let h : Shelves = shelves S.files S.faults S.asked c.args.shelf.now c.text.new.self in
    let told = subst (λ files. IsToldBy (λ f d. IsShelfFault name fault f × AreShown verbose files f d) end) c.text.ensures.same c.text_fault.ensures.told in
    subst (λ shelf. LacksText (shelves S.files S.faults S.asked c.args.shelf.now shelf) name verbose end) (sym c.text_fault.ensures.still)
    (shelf_lacks h name verbose fault end
    (unheld h.files name h.faults_old h.faults_new h.asked_new c.text.result fault c.in-Err.is c.text.ensures.failed c.text.ensures.asked c.text.ensures.too_long)
    told)
