use Rattle.std.proofs.Common.{ℕ, sym, subst, arith}
use Rattle.std.specs.Prelude.{IfSome, IfNone, map}
use Rattle.mrs_model.specs.declared.Mrs.{Mrs}
use Rattle.mrs_model.specs.Valid.{IsValid}
use Rattle.mrs_model.specs.Views.{meaning_of, predication_of}
use Rattle.transfer_model.specs.Sites.{Site, IsLeastSite}
use Rattle.transfer_model.specs.Runs.{AppliesNowhere}
use Rattle.transfer_model.specs.Views.{rule_of}
use Rattle.mrs_transfer.specs.Inner.Present.{ArePresent}
use Rattle.mrs_transfer.specs.Inner.Running.{Leads}
use Rattle.mrs_transfer.proofs.Running.{leads_none, leads_more}
use Rattle.mrs_transfer.proofs.runs.exhaust.Goals as goal

pub loop-done-init : goal.loop-done-init
loop-done-init g c = record {
  valid = c.requires.valid;
  present = c.requires.present;
  within = c.requires.within;
  leads = λ allows a. leads_none allows c.args.number (rule_of c.args.rule.now) (meaning_of c.args.done.mrs) c.args.done.steps;
}

pub returns-then-done-most-clause-over : goal.returns-then-done-most-clause-over
returns-then-done-most-clause-over g c = λ allows a.
    let r = rule_of c.args.rule.now in
    let m = meaning_of c.loop-done.done.mrs in
    record {
      last = m;
      site = c.in-Some.site;
      next = meaning_of c.in_ok-mrs.mrs;
      leads = subst (λ (k : ℕ). Leads allows c.args.number r (meaning_of c.args.done.mrs) c.args.done.steps m k) c.if-done-most.true (c.loop-done.invariant.leads allows a);
      least = subst (λ o. IfSome o (λ (s : Site). IsLeastSite allows c.args.number r m s)) c.in-Some.is (c.in_ok-site.ensures.least allows a);
      applied = c.in_ok-mrs.ensures.applied;
    }

pub loop-done-preserved : goal.loop-done-preserved
loop-done-preserved g c = record {
  valid = subst (λ (x : Mrs). IsValid (meaning_of x)) (sym c.in_ok-done.ensures.mrs) c.in_ok-mrs.ensures.valid;
  present = subst (λ (x : Mrs). ArePresent c.in_ok-done.done.present.places.items (map predication_of x.eps.items)) (sym c.in_ok-done.ensures.mrs) c.in_ok-done.ensures.present;
  within = omega (arith, c.in_ok-done.ensures.steps, c.if-done-most.false, c.loop-done.invariant.within);
  leads = λ allows a.
      let r = rule_of c.args.rule.now in
      let m = meaning_of c.loop-done.done.mrs in
      let first = meaning_of c.args.done.mrs in
      let next = meaning_of c.in_ok-mrs.mrs in
      let least : IsLeastSite allows c.args.number r m c.in-Some.site = subst (λ o. IfSome o (λ (s : Site). IsLeastSite allows c.args.number r m s)) c.in-Some.is (c.in_ok-site.ensures.least allows a) in
      subst (λ (x : Mrs). Leads allows c.args.number r first c.args.done.steps (meaning_of x) c.in_ok-done.done.steps) (sym c.in_ok-done.ensures.mrs)
      (subst (λ (k : ℕ). Leads allows c.args.number r first c.args.done.steps next k) (sym c.in_ok-done.ensures.steps)
      (leads_more allows c.args.number r first m next c.args.done.steps c.loop-done.done.steps c.in-Some.site (c.loop-done.invariant.leads allows a) least c.in_ok-mrs.ensures.applied));
}

pub returns-clause-nowhere : goal.returns-clause-nowhere
returns-clause-nowhere g c = λ allows a.
    subst (λ o. IfNone o (AppliesNowhere allows c.args.number (rule_of c.args.rule.now) (meaning_of c.loop-done.done.mrs))) c.in_default.is (c.in_ok-site.ensures.none allows a)
