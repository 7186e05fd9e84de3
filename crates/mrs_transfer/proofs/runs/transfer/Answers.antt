use Rattle.std.proofs.Common.{ℕ, ◌≡◌, ◌+◌, ◌*◌, inr, length, ap, subst, arith}
use Rattle.std.specs.Prelude.{IfSome, IfNone}
use Rattle.mrs_model.specs.Views.{meaning_of}
use Rattle.transfer_model.specs.Runs.{AppliesNowhere}
use Rattle.transfer_model.specs.Views.{rule_of}
use Rattle.mrs_transfer.specs.declared.runs.Reached.{Reached}
use Rattle.mrs_transfer.specs.declared.runs.TransferLimit.{TransferLimit}
use Rattle.mrs_transfer.specs.Inner.Running.{Leads, GoesOver}
use Rattle.mrs_transfer.proofs.Numbered.{follows_rule, no_result, result}
use Rattle.mrs_transfer.proofs.runs.transfer.Goals as goal

pub returns-in-None-clause-budget : goal.returns-in-None-clause-budget
returns-in-None-clause-budget g c = λ allows a.
    let n = c.loop-number.number in
    let d = c.loop-number.done in
    let rs = c.rules-rule-items.result.now in
    let most : c.in_ok-most.most ≡ 16 * (length c.args.mrs.eps.items + 1) = omega (arith, c.in_ok-most.ensures, c.len.ensures) in
    let eps : c.in_ok-eps.eps ≡ length c.args.mrs.eps.items = omega (arith, c.in_ok-eps.ensures, c.len-2.ensures) in
    let over : GoesOver allows n (rule_of c.rule-item.result) (meaning_of d.mrs) d.steps c.in_ok-most.most =
    subst (λ o. IfNone o (GoesOver allows n (rule_of c.rule-item.result) (meaning_of d.mrs) d.steps c.in_ok-most.most)) c.in-None.is (c.in_ok-next.ensures.over allows a) in
    inr (
      ap (λ (k : ℕ). TransferLimit.Budget k) eps,
      no_result allows rs c.args.rules.now c.rules-rule-items.ensures.same c.args.mrs n c.rule-item.result c.loop-number-test.true c.rule-item.is (meaning_of d.mrs) d.steps c.in_ok-most.most most c.loop-number.invariant.within (c.loop-number.invariant.follows allows a) over,
    )

pub loop-number-preserved : goal.loop-number-preserved
loop-number-preserved g c =
    let next = c.in-Some.next in
    record {
      valid = rw c.in-Some.is at c.in_ok-next.ensures.valid;
      present = rw c.in-Some.is at c.in_ok-next.ensures.present;
      within = rw c.in-Some.is at c.in_ok-next.ensures.within;
      follows = λ allows a.
          let n = c.loop-number.number in
          let d = c.loop-number.done in
          let r = c.rule-item.result in
          let leads : Leads allows n (rule_of r) (meaning_of d.mrs) d.steps (meaning_of next.mrs) next.steps =
          subst (λ o. IfSome o (λ (t : Reached). Leads allows n (rule_of r) (meaning_of d.mrs) d.steps (meaning_of t.mrs) t.steps)) c.in-Some.is (c.in_ok-next.ensures.leads allows a) in
          let nowhere : AppliesNowhere allows n (rule_of r) (meaning_of next.mrs) =
          subst (λ o. IfSome o (λ (t : Reached). AppliesNowhere allows n (rule_of r) (meaning_of t.mrs))) c.in-Some.is (c.in_ok-next.ensures.nowhere allows a) in
          follows_rule allows c.rules-rule-items.result.now c.args.rules.now c.rules-rule-items.ensures.same c.args.mrs n r c.loop-number-test.true c.rule-item.is
          (meaning_of d.mrs) (meaning_of next.mrs) d.steps next.steps (c.loop-number.invariant.follows allows a) leads nowhere;
    }

pub returns-clause-result : goal.returns-clause-result
returns-clause-result g c = λ allows a.
    let n = c.loop-number.number in
    let d = c.loop-number.done in
    let most : c.in_ok-most.most ≡ 16 * (length c.args.mrs.eps.items + 1) = omega (arith, c.in_ok-most.ensures, c.len.ensures) in
    result allows c.rules-rule-items.result.now c.args.rules.now c.rules-rule-items.ensures.same c.args.mrs n (meaning_of d.mrs) d.steps c.in_ok-most.most c.loop-number-test.false most c.loop-number.invariant.within (c.loop-number.invariant.follows allows a)
