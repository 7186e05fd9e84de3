use Rattle.chart_core.specs.Grammar.{grammar_of}
use Rattle.chart_core.specs.Later.{later_by}
use Rattle.chart_core.proofs.Later.{tasks_later}
use Rattle.chart_rows.proofs.worker.advance.Goals as goal

pub returns-clause-later : goal.returns-clause-later
returns-clause-later g c = later_by (grammar_of g.S.Shapes g.S.Cover.Cover c.args.shapes.now) c.args.core.now c.enter.new.self c.args.task.0 _ _ _ c.enter.ensures.change

pub returns-clause-more : goal.returns-clause-more
returns-clause-more g c =
    let s = c.args.shapes.now in
    let G = grammar_of g.S.Shapes g.S.Cover.Cover s in
    tasks_later G (g.met.S.Shapes.laws s) c.args.core.now c.enter.new.self c.requires.core c.enter.ensures.core (later_by G c.args.core.now c.enter.new.self c.args.task.0 _ _ _ c.enter.ensures.change)
