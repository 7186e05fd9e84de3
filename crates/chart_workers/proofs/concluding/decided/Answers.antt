use Rattle.std.proofs.Common.{◌∙◌, sym, ap, subst, MatchResult}
use Rattle.chart_model.specs.Finished.{IsComplete}
use Rattle.chart_model.specs.Grown.{HoldsTrees}
use Rattle.chart_model.specs.Limits.{Within, IsLimitAnswer}
use Rattle.chart_core.specs.Grammar.{grammar_of}
use Rattle.chart_core.specs.Kept.{IsCore, limits_seen, pending_of}
use Rattle.chart_core.specs.CoreView.{chart_of, leaves_of, limits_of}
use Rattle.chart_core.specs.Passed.{IsPassed, IsPassFault}
use Rattle.chart_workers.proofs.Faults.{fault_is}
use Rattle.chart_workers.proofs.concluding.decided.Goals as goal

pub pass_over-requires-clause-leaves : goal.pass_over-requires-clause-leaves
pass_over-requires-clause-leaves g c =
    let same = c.in-Err.ensures.ended.0 in
    c.leaves.ensures.belongs c.args.shapes.now (subst (λ x. IsCore (grammar_of g.S.Shapes g.S.Cover.Cover c.args.shapes.now) x) (sym same) c.requires.core)

pub returns-in-Ok-decide : goal.returns-in-Ok-decide
returns-in-Ok-decide g c =
    let s = c.args.shapes.now in let k = g.S.Shapes.calculus s in let m = g.S.Shapes.meaning s in let f = c.in-Ok.finished in let core = c.args.core in
    let lim = limits_seen c.args.limits.now in
    let same = c.in-Ok.ensures.ended.0 in
    let isf = subst (λ x. IsCore (grammar_of g.S.Shapes g.S.Cover.Cover s) x) (sym same) c.requires.core in
    let d = (c.in-Ok-decide.ensures s isf).0 in record {
      complete = subst (λ x. IsComplete k lim (leaves_of m core) (chart_of m x)) (sym same) (subst (λ l. IsComplete k l (leaves_of m core) (chart_of m core)) c.requires.same (c.in-Ok.ensures.complete s c.requires.core));
      forest = subst (λ x. HoldsTrees k (g.S.Shapes.full s) (g.S.Shapes.agrees s) lim (leaves_of m core) (chart_of m x)) (sym same) (subst (λ l. HoldsTrees k (g.S.Shapes.full s) (g.S.Shapes.agrees s) l (leaves_of m core) (chart_of m core)) c.requires.same (c.in-Ok.ensures.forest s c.requires.core));
      within = subst (λ l. IsLimitAnswer k l (leaves_of m core) Within) c.requires.same (subst (λ x. IsLimitAnswer k (limits_of x) (leaves_of m x) Within) same d);
      core = isf;
      limits_same = ap limits_of same ∙ c.requires.same;
      leaves_same = ap (leaves_of m) same;
      done = ap pending_of same ∙ c.in-Ok.ensures.ended.1;
    }

pub returns-in-Err-decide : goal.returns-in-Err-decide
returns-in-Err-decide g c =
    let s = c.args.shapes.now in let k = g.S.Shapes.calculus s in let m = g.S.Shapes.meaning s in let core = c.args.core in
    let same = c.in-Ok.ensures.ended.0 in
    let isf = subst (λ x. IsCore (grammar_of g.S.Shapes g.S.Cover.Cover s) x) (sym same) c.requires.core in
    let d = c.in-Err-decide.ensures s isf in
    fault_is k (limits_seen c.args.limits.now) (leaves_of m core) c.in-Err-decide.fault d.0 d.1
    (subst (λ l. IsLimitAnswer k l (leaves_of m core) d.0) c.requires.same (subst (λ x. IsLimitAnswer k (limits_of x) (leaves_of m x) d.0) same d.2))

pub returns-in-Err : goal.returns-in-Err
returns-in-Err g c =
    let s = c.args.shapes.now in
    subst (λ ls. MatchResult c.pass_over.result (IsPassed (grammar_of g.S.Shapes g.S.Cover.Cover s) (g.S.Shapes.full s) (g.S.Shapes.agrees s) (limits_seen c.args.limits.now) ls) (IsPassFault (g.S.Shapes.calculus s) (limits_seen c.args.limits.now) ls))
    (c.leaves.ensures.leaves s ∙ ap (leaves_of (g.S.Shapes.meaning s)) c.in-Err.ensures.ended.0) c.pass_over.ensures
