use Rattle.std.proofs.Common.{◌++◌, ◌∷◌, [], map, sym, ap, ◌∙◌, subst, arith}
use Rattle.morph_analysis.proofs.Lists.{drop_at, true_not_false}
use Rattle.morph_analysis.proofs.ArrivalLemmas.{drop_all}
use Rattle.morph_analysis.specs.LatticeViews.{step_of}
use Rattle.line_charts.specs.Inner.Reaches.{reach_seen, IsTold, AreOutside, outside_none, outside_passed, outside_here}
use Rattle.line_charts.proofs.UnknownSteps.{snoc_map, append_none}
use Rattle.line_charts.proofs.unknown.untold_of.Goals as goal
use Rattle.line_charts.proofs.unknown.untold_of.Goals.{then-not-branch+in_ok-copy_of+in_ok-push, else-not-branch}

pub loop-step-preserved : goal.loop-step-preserved
loop-step-preserved c =
    let steps = c.args.steps.now in
    let step = c.step-item.result in
    let here = drop_at c.args.steps.now c.loop-step.step-index c.step-item.result c.loop-step-test.true c.step-item.is in
    λ us h. elim c.if-not-branch.branch [
      | then-not-branch+in_ok-copy_of+in_ok-push w ↦
          subst (AreOutside (IsTold c.args.arrivals.now (map reach_seen c.args.ones.now) (map reach_seen c.args.longs.now)) (map step_of c.args.steps.now))
          (sym (ap (λ v. map step_of v.items ++ us) w.unknown-is ∙ ap (λ l. map step_of l ++ us) w.in_ok-push.ensures.items ∙ snoc_map step_of c.loop-step.unknown.items w.in_ok-copy_of.field-0 us ∙ ap (λ s. map step_of c.loop-step.unknown.items ++ s ∷ us) w.in_ok-copy_of.ensures))
          (c.loop-step.invariant (step_of c.step-item.result ∷ us)
          (subst (λ ss. AreOutside (IsTold c.args.arrivals.now (map reach_seen c.args.ones.now) (map reach_seen c.args.longs.now)) (map step_of ss) (step_of c.step-item.result ∷ us)) (sym here)
          (outside_here (step_of c.step-item.result) (λ p. true_not_false c.in_ok-is_told.field-0 (c.in_ok-is_told.ensures.1 p) w.if-not-branch.true) h)))
      | else-not-branch w ↦
          subst (AreOutside (IsTold c.args.arrivals.now (map reach_seen c.args.ones.now) (map reach_seen c.args.longs.now)) (map step_of c.args.steps.now))
          (sym (ap (λ v. map step_of v.items ++ us) w.unknown-is))
          (c.loop-step.invariant us
          (subst (λ ss. AreOutside (IsTold c.args.arrivals.now (map reach_seen c.args.ones.now) (map reach_seen c.args.longs.now)) (map step_of ss) us) (sym here)
          (outside_passed (step_of c.step-item.result) (c.in_ok-is_told.ensures.0 w.if-not-branch.false) h)))
    ]

pub returns : goal.returns
returns c =
    subst (AreOutside (IsTold c.args.arrivals.now (map reach_seen c.args.ones.now) (map reach_seen c.args.longs.now)) (map step_of c.args.steps.now))
    (append_none (map step_of c.loop-step.unknown.items))
    (c.loop-step.invariant []
    (subst (λ ss. AreOutside (IsTold c.args.arrivals.now (map reach_seen c.args.ones.now) (map reach_seen c.args.longs.now)) (map step_of ss) []) (sym (drop_all c.args.steps.now c.loop-step.step-index (omega (arith, c.loop-step-test.false)))) outside_none))
