use Rattle.std.proofs.Common.{◌≡◌, inl, inr, subst, arith}
use Rattle.std.proofs.lemmas.List.{length-map}
use Rattle.std.proofs.lemmas.Bool.{cases_lt}
use Rattle.type_hierarchy.specs.Order.{IsBelow}
use Rattle.type_hierarchy.specs.Inner.Reach.{lists}
use Rattle.type_hierarchy.proofs.SetLemmas.{differ}
use Rattle.type_hierarchy.proofs.faults.first_cycle.Goals as goal

pub loop-t-preserved : goal.loop-t-preserved
loop-t-preserved c = λ u low h below.
    elim (cases_lt u c.loop-t.t) [
      | inl less ↦ c.loop-t.invariant u low less below
      | inr more ↦
          let same : u ≡ c.loop-t.t = omega arith in
          differ _ (c.in_ok-is_cyclic.ensures.1 (subst (λ x. IsBelow (lists c.args.parents.now) x x) same below)) c.if-branch.false
    ]

pub returns : goal.returns
returns c = λ t low high. c.loop-t.invariant t low (omega (arith, high, length-map c.args.parents.now (λ v. v.items)))
