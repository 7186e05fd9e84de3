use Rattle.chart_core.specs.Grammar.{grammar_of}
use Rattle.chart_core.specs.Outcomes.{outcome_seen}
use Rattle.chart_core.proofs.Settled.{settled_by, stays_over}
use Rattle.chart_core.proofs.chart.Core.settle.Goals as goal

pub returns : goal.returns
returns g c =
    let G = grammar_of g.S.Shapes g.S.Cover.Cover c.args.shapes.now in
    let o = outcome_seen G.meaning c.args.outcome in
    let e = c.enter_inner.ensures in
    let s = settled_by G c.args.self.now c.enter_inner.new.self c.args.task.0 o _ c.enter_inner.result c.requires.right e.answer e.change c.in_default.not-NoMemory in
    record { core = e.core; over = stays_over G c.args.self.now c.enter_inner.new.self c.args.task.0 o s e.change.limits e.change.leaves; settled = s }
