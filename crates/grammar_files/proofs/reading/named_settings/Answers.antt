use Rattle.grammar_files.proofs.TextLemmas.{is_text, settles_text, settles_faults, unheld, shelf_faults_settle}
use Rattle.grammar_files.specs.Walks.{IsText}
use Rattle.grammar_files.proofs.reading.named_settings.Goals as goal

held : (g : _) (c : goal.After-drop-text g) → IsText (g.S.Shelf.files c.args.shelf.now) c.args.name.now c.deref.result.now
held g c = is_text (g.S.Shelf.files c.args.shelf.now) c.args.name.now c.deref.result.now c.in-Ok.text.items c.deref.ensures.value c.in-Ok.ensures.told c.in-Ok.ensures.bound

pub returns-in-Ok-clause-settled : goal.returns-in-Ok-clause-settled
returns-in-Ok-clause-settled g c = settles_text (g.S.Shelf.files c.args.shelf.now) c.args.name.now c.deref.result.now c.file_settings.result (held g c) c.file_settings.ensures.settings

pub returns-in-Ok-clause-fault : goal.returns-in-Ok-clause-fault
returns-in-Ok-clause-fault g c = settles_faults (g.S.Shelf.files c.args.shelf.now) c.args.name.now c.deref.result.now (g.S.Shelf.faults c.args.shelf.now) (g.S.Shelf.faults c.text.new.self) (g.S.Shelf.asked c.text.new.self) c.file_settings.result (held g c) c.file_settings.ensures.fault

pub returns-in-Err-clause-fault : goal.returns-in-Err-clause-fault
returns-in-Err-clause-fault g c =
    shelf_faults_settle (g.S.Shelf.files c.args.shelf.now) c.args.name.now (g.S.Shelf.faults c.args.shelf.now) (g.S.Shelf.faults c.text.new.self) (g.S.Shelf.asked c.text.new.self) c.in-Err.fault c.shelf_fault.result
    (unheld (g.S.Shelf.files c.args.shelf.now) c.args.name.now (g.S.Shelf.faults c.args.shelf.now) (g.S.Shelf.faults c.text.new.self) (g.S.Shelf.asked c.text.new.self) c.text.result c.in-Err.fault c.in-Err.is c.text.ensures.failed c.text.ensures.asked c.text.ensures.too_long)
    c.shelf_fault.ensures
