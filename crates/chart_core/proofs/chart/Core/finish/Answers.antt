use Rattle.std.proofs.Common.{◌∙◌, sym}
use Rattle.chart_core.specs.Grammar.{grammar_of}
use Rattle.chart_core.proofs.Done.{core_complete, core_forest}
use Rattle.chart_core.proofs.chart.Core.finish.Goals as goal

pub returns-then-pending-eq0-clause-complete : goal.returns-then-pending-eq0-clause-complete
returns-then-pending-eq0-clause-complete g c = λ s is. core_complete (grammar_of g.S.Shapes g.S.Cover.Cover s) (g.met.S.Shapes.laws s) c.args.self is (sym c.pending.ensures.left ∙ c.if-pending-eq0.true)

pub returns-then-pending-eq0-clause-forest : goal.returns-then-pending-eq0-clause-forest
returns-then-pending-eq0-clause-forest g c = λ s is. core_forest (grammar_of g.S.Shapes g.S.Cover.Cover s) (g.met.S.Shapes.laws s) c.args.self is (sym c.pending.ensures.left ∙ c.if-pending-eq0.true) (g.S.Shapes.full s) (g.S.Shapes.agrees s) (g.met.S.Shapes.agreement s)
