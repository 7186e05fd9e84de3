use Rattle.std.proofs.Common.{◌≡◌, ◌∙◌, sym, subst, MatchResult}
use Rattle.chart_core.specs.Grammar.{grammar_of}
use Rattle.chart_core.specs.Kept.{IsCore, limits_seen}
use Rattle.chart_core.specs.CoreView.{leaves_of}
use Rattle.chart_core.specs.Passed.{IsPassed, IsPassFault}
use Rattle.shared_chart.specs.Seats.{state_of}
use Rattle.chart_workers.proofs.Firsts.{first_there}
use Rattle.chart_workers.proofs.concluding.conclude.Goals as goal

pub decided-requires-clause-core : goal.decided-requires-clause-core
decided-requires-clause-core g c = subst (λ s. IsCore (grammar_of g.S.Shapes g.S.Cover.Cover s) c.close-core.result) (sym c.requires.shapes) c.close-core.ensures.core

pub decided-requires-clause-same : goal.decided-requires-clause-same
decided-requires-clause-same g c =
    let f = first_there c.args.seats.items c.requires.count.1 in
    (c.close-core.ensures.later 0 f.0 f.1).limits_same ∙ c.requires.same f.0 f.1

pub returns : goal.returns
returns g c = λ s at.
    let l = (c.close-core.ensures.later 0 s at).leaves_same in
    let l' = subst (λ x. leaves_of (g.S.Shapes.meaning x) c.close-core.result ≡ leaves_of (g.S.Shapes.meaning x) (state_of s)) (sym c.requires.shapes) l in
    subst (λ ls. MatchResult c.decided.result (IsPassed (grammar_of g.S.Shapes g.S.Cover.Cover c.args.shapes.now) (g.S.Shapes.full c.args.shapes.now) (g.S.Shapes.agrees c.args.shapes.now) (limits_seen c.args.limits.now) ls) (IsPassFault (g.S.Shapes.calculus c.args.shapes.now) (limits_seen c.args.limits.now) ls)) l' c.decided.ensures
