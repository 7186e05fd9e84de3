use Rattle.std.proofs.Common.{sym, ◌∙◌, subst, arith}
use Rattle.chart_core.specs.Grammar.{grammar_of}
use Rattle.chart_core.specs.Passing.{IsTaking}
use Rattle.chart_core.proofs.Visits.{over_both, rounded}
use Rattle.chart_core.proofs.passing.Pass.round.Goals as goal

pub loop-self-preserved : goal.loop-self-preserved
loop-self-preserved g c =
    let s = c.args.shapes.now in
    let G = grammar_of g.S.Shapes g.S.Cover.Cover s in
    let i = c.loop-self.invariant in
    let e = c.in_ok-visit.ensures in
    let below = c.loop-self-test.true in
    record {
      sure = e.sure;
      goes_on = record { over = over_both G (g.met.S.Shapes.laws s) _ _ _ i.goes_on.over e.goes_on.over; size_same = e.goes_on.size_same ∙ i.goes_on.size_same; level_same = e.goes_on.level_same ∙ i.goes_on.level_same };
      inside = let n = e.seen in omega (arith, n, below);
      far_is = i.far_is;
      taking = λ short h. e.taking _ short below (let m = i.goes_on.over.more in let f = i.far_is in omega (arith, m, f)) (i.taking short h);
    }

pub returns-clause-taking : goal.returns-clause-taking
returns-clause-taking g c = λ short h.
    let s = c.args.shapes.now in
    let G = grammar_of g.S.Shapes g.S.Cover.Cover s in
    let i = c.loop-self.invariant in
    let ended = c.loop-self-test.false in
    rounded G (g.met.S.Shapes.laws s) c.loop-self.self i.sure c.tasks-far.result short
    (i.taking short (subst (λ n. IsTaking G c.args.self.now n short) (sym c.tasks-far.ensures.made) h))
    (let n = i.inside in omega (arith, n, ended))
