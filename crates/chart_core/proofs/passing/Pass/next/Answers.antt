use Rattle.chart_core.specs.Grammar.{grammar_of}
use Rattle.chart_core.proofs.Passes.{passing_same}
use Rattle.chart_core.proofs.passing.Pass.next.Goals as goal

pub returns-clause-passing : goal.returns-clause-passing
returns-clause-passing g c =
    let s = c.args._shapes.now in
    passing_same (grammar_of g.S.Shapes g.S.Cover.Cover s) (g.met.S.Shapes.laws s) c.args.self.now c.requires.passing c.next.new.self c.next.ensures.same
