use Rattle.std.proofs.Common.{refl}
use Rattle.chart_core.specs.Grammar.{grammar_of}
use Rattle.chart_core.proofs.Opened.{empty_core}
use Rattle.chart_core.proofs.chart.Core.empty.Goals as goal

pub returns-clause-core : goal.returns-clause-core
returns-clause-core g c = λ s. empty_core (grammar_of g.S.Shapes g.S.Cover.Cover s) _ c.new-4.ensures.items c.new-5.ensures.items c.new-6.ensures.items refl c.in_ok-cells.ensures.full c.in_ok-begins.ensures.full c.in_ok-ends.ensures.full c.in_ok-cells.ensures.empty c.in_ok-begins.ensures.empty c.in_ok-ends.ensures.empty
