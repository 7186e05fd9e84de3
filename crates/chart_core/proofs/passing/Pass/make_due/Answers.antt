use Rattle.chart_core.specs.Grammar.{grammar_of}
use Rattle.chart_core.proofs.Visits.{due_made, due_sure, due_entering, made_same, sure_same, over_both}
use Rattle.chart_core.proofs.passing.Pass.make_due.Goals as goal

pub make-requires-clause-made : goal.make-requires-clause-made
make-requires-clause-made g c =
    let s = c.args.shapes.now in
    due_made (grammar_of g.S.Shapes g.S.Cover.Cover s) (g.met.S.Shapes.laws s) c.loop-task.self c.loop-task.invariant.sure c.take.new.self c.in-Some.task c.in-Some.ensures.0

pub loop-task-preserved : goal.loop-task-preserved
loop-task-preserved g c =
    let s = c.args.shapes.now in
    let G = grammar_of g.S.Shapes g.S.Cover.Cover s in
    let i = c.loop-task.invariant in
    let e = c.in_ok-make.ensures in
    record {
      sure = due_sure G (g.met.S.Shapes.laws s) c.loop-task.self i.sure c.take.new.self c.in-Some.task c.in-Some.ensures.0 c.make.new.self e.core e.settled.0 e.settled.1 e.over;
      goes_on = record { over = over_both G (g.met.S.Shapes.laws s) _ _ _ i.goes_on.over e.over; size_same = i.goes_on.size_same; level_same = i.goes_on.level_same };
      entering = due_entering G (g.met.S.Shapes.laws s) c.loop-task.self i.sure c.take.new.self c.in-Some.task c.in-Some.ensures.0 c.make.new.self e.core e.settled.0 e.settled.1 e.over i.entering;
    }

pub returns-clause-sure : goal.returns-clause-sure
returns-clause-sure g c =
    let s = c.args.shapes.now in
    sure_same (grammar_of g.S.Shapes g.S.Cover.Cover s) (g.met.S.Shapes.laws s) c.loop-task.self c.loop-task.invariant.sure c.take.new.self c.in_default.ensures.0

pub returns-clause-goes_on : goal.returns-clause-goes_on
returns-clause-goes_on g c =
    let i = c.loop-task.invariant.goes_on in
    record { over = i.over; size_same = i.size_same; level_same = i.level_same }

pub returns-clause-taking : goal.returns-clause-taking
returns-clause-taking g c =
    let s = c.args.shapes.now in
    made_same (grammar_of g.S.Shapes g.S.Cover.Cover s) (g.met.S.Shapes.laws s) c.loop-task.self c.loop-task.invariant.sure c.take.new.self c.in_default.ensures.0
    c.loop-task.invariant.entering c.in_default.ensures.1
