use Rattle.endings.specs.Meanings.{shelves}
use Rattle.self_tests.proofs.command.SelfTestOfItems.report.Goals as goal

pub returns-clause-made : goal.returns-clause-made
returns-clause-made g c = c.report_of.ensures (shelves g.S.Shelf.files g.S.Shelf.faults g.S.Shelf.asked c.args._shelf.now c.args._shelf.now)
