use Rattle.std.proofs.Common.{subst}
use Rattle.chart_core.specs.Grammar.{grammar_of}
use Rattle.chart_core.specs.declared.Outcome.TheVariants as outcomes
use Rattle.chart_core.specs.Later.{StaysRight}
use Rattle.chart_rows.proofs.turns.find.Goals as goal

pub returns-in-Done-clause-found : goal.returns-in-Done-clause-found
returns-in-Done-clause-found g c =
    let e = c.in_ok-ready.ensures in record {
      core = e.sees.core;
      made = e.tells.0;
      right = λ x is later. subst (λ r. StaysRight (grammar_of g.S.Shapes g.S.Cover.Cover c.args.shapes.now) x c.args.task.0 r) c.in-Done.is (e.stays x is later) outcomes.Fails;
      belongs = tt;
    }

pub returns-in-Skipped-clause-found : goal.returns-in-Skipped-clause-found
returns-in-Skipped-clause-found g c =
    let e = c.in_ok-ready.ensures in record {
      core = e.sees.core;
      made = e.tells.0;
      right = λ x is later. subst (λ r. StaysRight (grammar_of g.S.Shapes g.S.Cover.Cover c.args.shapes.now) x c.args.task.0 r) c.in-Skipped.is (e.stays x is later) outcomes.Fails;
      belongs = tt;
    }

pub returns-in_ok-outcome_of-in-Ready-clause-found : goal.returns-in_ok-outcome_of-in-Ready-clause-found
returns-in_ok-outcome_of-in-Ready-clause-found g c =
    let e = c.in_ok-ready.ensures in let o = c.in_ok-outcome_of-in-Ready.ensures in record {
      core = e.sees.core;
      made = e.tells.0;
      right = λ x is later. subst (λ r. StaysRight (grammar_of g.S.Shapes g.S.Cover.Cover c.args.shapes.now) x c.args.task.0 r) c.in-Ready.is (e.stays x is later) _ o.right;
      belongs = o.belongs;
    }
