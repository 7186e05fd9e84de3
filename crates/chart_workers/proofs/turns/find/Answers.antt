use Rattle.std.proofs.Common.{subst}
use Rattle.chart_core.specs.Grammar.{grammar_of}
use Rattle.chart_core.specs.declared.Outcome.TheVariants as outcomes
use Rattle.chart_core.specs.Later.{StaysRight}
use Rattle.chart_workers.proofs.turns.find.Goals as goal

pub returns-in-Done-clause-right : goal.returns-in-Done-clause-right
returns-in-Done-clause-right g c = λ x t stays. subst (λ r. StaysRight (grammar_of g.S.Shapes g.S.Cover.Cover c.args.shapes.now) x t r) c.in-Done.is stays outcomes.Fails

pub returns-in-Skipped-clause-right : goal.returns-in-Skipped-clause-right
returns-in-Skipped-clause-right g c = λ x t stays. subst (λ r. StaysRight (grammar_of g.S.Shapes g.S.Cover.Cover c.args.shapes.now) x t r) c.in-Skipped.is stays outcomes.Fails

pub returns-in_ok-outcome-in-Ready-clause-right : goal.returns-in_ok-outcome-in-Ready-clause-right
returns-in_ok-outcome-in-Ready-clause-right g c = λ x t stays. subst (λ r. StaysRight (grammar_of g.S.Shapes g.S.Cover.Cover c.args.shapes.now) x t r) c.in-Ready.is stays _ c.in_ok-outcome-in-Ready.ensures.right
