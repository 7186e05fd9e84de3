use Rattle.chart_core.specs.Grammar.{grammar_of}
use Rattle.chart_core.proofs.Passes.{entering_next}
use Rattle.chart_core.proofs.passing.Pass.advance.Goals as goal

pub make_due-requires-clause-entering : goal.make_due-requires-clause-entering
make_due-requires-clause-entering g c =
    let s = c.args.shapes.now in
    entering_next (grammar_of g.S.Shapes g.S.Cover.Cover s) (g.met.S.Shapes.laws s) c.args.self.now c.requires.passing c.args.size c.args.level c.requires.next
