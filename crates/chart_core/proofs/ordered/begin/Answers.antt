use Rattle.chart_core.specs.Grammar.{grammar_of}
use Rattle.chart_core.proofs.Passes.{sure_start, taking_start}
use Rattle.chart_core.proofs.ordered.begin.Goals as goal

pub take_up-requires-clause-sure : goal.take_up-requires-clause-sure
take_up-requires-clause-sure g c =
    let s = c.args.shapes.now in
    sure_start (grammar_of g.S.Shapes g.S.Cover.Cover s) (g.met.S.Shapes.laws s) c.in_ok-core.core c.new.result c.in_ok-core.ensures.core c.new.ensures

pub take_up-requires-clause-taking : goal.take_up-requires-clause-taking
take_up-requires-clause-taking g c =
    let s = c.args.shapes.now in
    taking_start (grammar_of g.S.Shapes g.S.Cover.Cover s) (g.met.S.Shapes.laws s) c.in_ok-core.core c.new.result c.in_ok-core.ensures.core c.new.ensures
