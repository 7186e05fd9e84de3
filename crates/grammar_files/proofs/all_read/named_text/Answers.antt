use Rattle.grammar_files.proofs.TextLemmas.{unheld}
use Rattle.grammar_files.proofs.ReadLemmas.{text_there, shelf_faults_lack}
use Rattle.grammar_files.proofs.all_read.named_text.Goals as goal

pub returns-in-Ok-clause-text : goal.returns-in-Ok-clause-text
returns-in-Ok-clause-text g c = text_there (g.S.Shelf.files c.args.shelf.now) c.args.name.now c.in-Ok.text.items c.in-Ok.ensures.told c.in-Ok.ensures.bound

pub returns-in-Err-clause-fault : goal.returns-in-Err-clause-fault
returns-in-Err-clause-fault g c =
    shelf_faults_lack (g.S.Shelf.files c.args.shelf.now) c.args.name.now (g.S.Shelf.faults c.args.shelf.now) (g.S.Shelf.faults c.text.new.self) (g.S.Shelf.asked c.text.new.self) c.in-Err.fault c.shelf_fault.result
    (unheld (g.S.Shelf.files c.args.shelf.now) c.args.name.now (g.S.Shelf.faults c.args.shelf.now) (g.S.Shelf.faults c.text.new.self) (g.S.Shelf.asked c.text.new.self) c.text.result c.in-Err.fault c.in-Err.is c.text.ensures.failed c.text.ensures.asked c.text.ensures.too_long)
    c.shelf_fault.ensures
