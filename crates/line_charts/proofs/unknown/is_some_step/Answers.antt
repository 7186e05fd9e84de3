use Rattle.std.proofs.Common.{◌≡◌, ◌<◌, inl, inr, suc, leb, leb-true, false, refl, sym, ap, subst, rules, arith}
use Rattle.std.proofs.lemmas.List.Sorted.{IsPartitionPoint-from_clause, IsPartitionedBy-leb}
use Rattle.morph_analysis.proofs.ArrivalLemmas.{not_below}
use Rattle.morph_analysis.proofs.NodeLemmas.{cases_le}
use Rattle.morph_analysis.specs.LatticeViews.{step_of}
use Rattle.line_charts.specs.declared.unknown.Reach.{Reach}
use Rattle.line_charts.specs.Inner.Reaches.{IsStep}
use Rattle.line_charts.proofs.UnknownSteps.{some_at, none_at, beyond}
use Rattle.line_charts.proofs.unknown.is_some_step.Goals as goal

pub loop-i-init : goal.loop-i-init
loop-i-init c =
    let node = c.args.step.now.from in
    let parted = IsPartitionedBy-leb (λ (r : Reach). suc r.from) c.args.ones.now c.args.step.now.from (λ i j d le lt. let from = c.requires i j d le lt in omega (arith, from)) in
    let point = IsPartitionPoint-from_clause (λ (r : Reach). leb (suc r.from) c.args.step.now.from) c.args.ones.now c.partition_point-begin.result c.partition_point-begin.ensures.partitioned parted (λ a r q k. search rules) in
    λ k r lt e p.
    let low = leb-true _ _ (point.0 k r (omega arith) lt) in
    let at = ap (λ (v : Reach). v.from) e in
    let same = p.from in
    absurd (omega (arith, low, at, same))

pub returns-then-reach-step : goal.returns-then-reach-step
returns-then-reach-step c =
    let parted = IsPartitionedBy-leb (λ (r : Reach). suc r.from) c.args.ones.now c.args.step.now.from (λ i j d le lt. let from = c.requires i j d le lt in omega (arith, from)) in
    let point = IsPartitionPoint-from_clause (λ (r : Reach). leb (suc r.from) c.args.step.now.from) c.args.ones.now c.partition_point-begin.result c.partition_point-begin.ensures.partitioned parted (λ a r q k. search rules) in
    let x = c.index-ones-i.result in
    let near = not_below x.from c.args.step.now.from (subst (λ (r : Reach). leb (suc r.from) c.args.step.now.from ≡ false) (sym c.index-ones-i.is) (point.1 c.loop-i.i x c.loop-i.auto.i c.loop-i-test.true)) in
    let far : c.args.step.now.from < c.index-ones-i.result.from = omega (arith, near, c.if-reach-step.true) in (
      λ e. absurd (cc),
      λ h. absurd (none_at IsStep c.args.ones.now (step_of c.args.step.now)
          (λ k r lt e p. elim (cases_le c.loop-i.i k) [
            | inl le ↦ beyond c.args.ones.now c.loop-i.i x c.args.step.now.from c.requires c.loop-i-test.true c.index-ones-i.is far k r le lt e p.from
            | inr less ↦ c.loop-i.invariant k r less e p
          ]) h),
    )

pub returns-then-is_step : goal.returns-then-is_step
returns-then-is_step c = (
  λ e. some_at IsStep c.args.ones.now c.loop-i.i c.index-ones-i.result (step_of c.args.step.now) c.loop-i-test.true c.index-ones-i.is (c.is_step.ensures.0 c.if-is_step.true),
  λ h. refl,
)

pub returns : goal.returns
returns c = (
  λ e. absurd (cc),
  λ h. absurd (none_at IsStep c.args.ones.now (step_of c.args.step.now) (λ k r lt e p. c.loop-i.invariant k r (omega (arith, c.loop-i-test.false)) e p) h),
)
