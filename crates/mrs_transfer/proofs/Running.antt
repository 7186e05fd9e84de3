-- Runs that go on from an MRS that rules have made so far.
use Rattle.std.proofs.Common.{ℕ, suc, ◌≡◌, ◌<◌, ◌≤◌, ◌+◌, ◌-◌, ◌∙◌, Bool, List, ◌∷◌, length, get_or, drop, sym, subst, ap, arith}
use Rattle.std.proofs.lemmas.List.{drop_more, drop_all}
use Rattle.mrs_model.specs.Meanings.{Meaning}
use Rattle.transfer_model.specs.Rules.{Rule}
use Rattle.transfer_model.specs.Sites.{Site, IsLeastSite}
use Rattle.transfer_model.specs.Applying.{IsApplied}
use Rattle.transfer_model.specs.Runs.{AppliesNowhere, Makes, ends, goes_on, applies, HasSteps, begins, goes_on_to, applies_first}
use Rattle.mrs_transfer.specs.Inner.Running.{Leads, GoesOver, Follows}

module _ (allows : ℕ → Site → Bool) (number : ℕ) (r : Rule) where
  pub leads_none : (m : Meaning) (steps : ℕ) → Leads allows number r m steps m steps
  leads_none m steps = record {
    more = 0;
    count = omega arith;
    makes = λ rs k end h. let q : k ≡ 0 + k = omega arith in subst (λ (z : ℕ). Makes allows number (r ∷ rs) m z end) q h;
    has_steps = λ rs k h. let q : k ≡ 0 + k = omega arith in subst (λ (z : ℕ). HasSteps allows number (r ∷ rs) m z) q h;
  }

  pub leads_more : (first m next : Meaning) (before steps : ℕ) (s : Site) → Leads allows number r first before m steps → IsLeastSite allows number r m s → IsApplied m r s next → Leads allows number r first before next (steps + 1)
  leads_more first m next before steps s l least applied = record {
    more = l.more + 1;
    count = omega (arith, l.count);
    makes = λ rs k end h. let q : l.more + suc k ≡ (l.more + 1) + k = omega arith in
        subst (λ (z : ℕ). Makes allows number (r ∷ rs) first z end) q (l.makes rs (suc k) end (applies number r rs m next end s k least applied h));
    has_steps = λ rs k h. let q : l.more + suc k ≡ (l.more + 1) + k = omega arith in
        subst (λ (z : ℕ). HasSteps allows number (r ∷ rs) first z) q (l.has_steps rs (suc k) (applies_first number r rs m next s k least applied h));
  }

  over_steps : (first : Meaning) (before most : ℕ) (rs : List Rule) → GoesOver allows number r first before most → HasSteps allows number (r ∷ rs) first ((most + 1) - before)
  over_steps first before most rs o =
      let q : o.leads.more + 1 ≡ (most + 1) - before = omega (arith, o.leads.count) in
      subst (λ (z : ℕ). HasSteps allows number (r ∷ rs) first z) q (o.leads.has_steps rs 1 (applies_first number r rs o.last o.next o.site 0 o.least o.applied (begins number (r ∷ rs) o.next)))

module _ (allows : ℕ → Site → Bool) (rules : List Rule) (first : Meaning) where
  pub follows_none : Follows allows rules first 0 first 0
  follows_none = record {
    makes = λ k end h. let q : k ≡ 0 + k = omega arith in subst (λ (z : ℕ). Makes allows 0 rules first z end) q h;
    has_steps = λ k h. let q : k ≡ 0 + k = omega arith in subst (λ (z : ℕ). HasSteps allows 0 rules first z) q h;
  }

  module _ (number : ℕ) (r : Rule) (within : number < length rules) (is : r ≡ get_or rules number r) where
    from_here : drop number rules ≡ r ∷ drop (number + 1) rules
    from_here = drop_more rules number r within ∙ ap (λ (x : Rule). x ∷ drop (number + 1) rules) (sym is)

    pub follows_more : (m next : Meaning) (before steps : ℕ) → Follows allows rules first number m before → Leads allows number r m before next steps → AppliesNowhere allows number r next → Follows allows rules first (number + 1) next steps
    follows_more m next before steps f l nowhere = record {
      makes = λ k end h. let q : before + (l.more + k) ≡ steps + k = omega (arith, l.count) in
          subst (λ (z : ℕ). Makes allows 0 rules first z end) q
          (f.makes (l.more + k) end (subst (λ (rs : List Rule). Makes allows number rs m (l.more + k) end) (sym from_here)
          (l.makes (drop (number + 1) rules) k end (goes_on number r (drop (number + 1) rules) next end k nowhere h))));
      has_steps = λ k h. let q : before + (l.more + k) ≡ steps + k = omega (arith, l.count) in
          subst (λ (z : ℕ). HasSteps allows 0 rules first z) q
          (f.has_steps (l.more + k) (subst (λ (rs : List Rule). HasSteps allows number rs m (l.more + k)) (sym from_here)
          (l.has_steps (drop (number + 1) rules) k (goes_on_to number r (drop (number + 1) rules) next k nowhere h))));
    }

    pub follows_over : (m : Meaning) (before most : ℕ) → before ≤ most → Follows allows rules first number m before → GoesOver allows number r m before most → HasSteps allows 0 rules first (most + 1)
    follows_over m before most l f o = let q : before + ((most + 1) - before) ≡ most + 1 = omega (arith, l) in
        subst (λ (z : ℕ). HasSteps allows 0 rules first z) q
        (f.has_steps ((most + 1) - before) (subst (λ (rs : List Rule). HasSteps allows number rs m ((most + 1) - before)) (sym from_here) (over_steps allows number r m before most (drop (number + 1) rules) o)))

  pub follows_all : (number : ℕ) (m : Meaning) (steps : ℕ) → length rules ≤ number → Follows allows rules first number m steps → Makes allows 0 rules first steps m
  follows_all number m steps l f = let q : steps + 0 ≡ steps = omega arith in
      subst (λ (z : ℕ). Makes allows 0 rules first z m) q
      (f.makes 0 m (subst (λ (rs : List Rule). Makes allows number rs m 0 m) (sym (drop_all number rules l)) (ends number m)))
