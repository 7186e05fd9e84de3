-- Runs of rules have one end.
use Rattle.std.proofs.Common.{ℕ, suc, ◌+◌, ◌≡◌, ◌≤◌, ◌⊎◌, inl, inr, Bool, List, [], ◌∷◌, refl, sym, ◌∙◌, ap, subst, arith}
use Rattle.std.specs.Prelude.{All}
use Rattle.std.proofs.lemmas.List.Elements.{All-head, All-tail}
use Rattle.mrs_model.specs.Meanings.{Meaning}
use Rattle.mrs_model.specs.Valid.{IsValid}
use Rattle.transfer_model.specs.Rules.{Rule, IsRule}
use Rattle.transfer_model.specs.Sites.{Site, IsLeastSite}
use Rattle.transfer_model.specs.Applying.{IsApplied}
use Rattle.transfer_model.specs.Runs.{AppliesNowhere, Makes, ends, goes_on, applies, HasSteps, begins, goes_on_to, applies_first, budget, IsResult, HasNoResult}
use Rattle.transfer_model.proofs.Places.{one_least}
use Rattle.transfer_model.proofs.Trimmed.{one_applied}

-- the first rule applies, and what the run makes of the next MRS
pub record IsStep (allows : ℕ → Site → Bool) (number : ℕ) (r : Rule) (rs : List Rule) (m : Meaning) (steps : ℕ) (end : Meaning) : Type 0 where
  pub site : Site
  pub next : Meaning
  pub rest : ℕ
  pub count : steps ≡ suc rest
  pub least : IsLeastSite allows number r m site
  pub applied : IsApplied m r site next
  pub makes : Makes allows number (r ∷ rs) next rest end

-- how a run goes, by its rules
abbrev pub Case : (ℕ → Site → Bool) → ℕ → List Rule → Meaning → ℕ → Meaning → Type 0
Case allows number [] m steps end = (steps ≡ 0) × (m ≡ end)
Case allows number (r ∷ rs) m steps end = (AppliesNowhere allows number r m × Makes allows (number + 1) rs m steps end) ⊎ IsStep allows number r rs m steps end

pub case : (allows : ℕ → Site → Bool) (number : ℕ) (rs : List Rule) (m : Meaning) (steps : ℕ) (end : Meaning) → Makes allows number rs m steps end → Case allows number rs m steps end
case allows _ _ _ _ _ (ends number m) = (refl, refl)
case allows _ _ _ _ _ (goes_on number r rs m end steps none go) = inl (none, go)
case allows _ _ _ _ _ (applies number r rs m next end s steps least applied go) = inr (record { site = s; next = next; rest = steps; count = refl; least = least; applied = applied; makes = go })

module _ (allows : ℕ → Site → Bool) where
  -- two applications at least sites are one
  pub one_next : (number : ℕ) (r : Rule) (m a b : Meaning) (s t : Site) → IsValid m → IsRule r → IsLeastSite allows number r m s → IsLeastSite allows number r m t → IsApplied m r s a → IsApplied m r t b → b ≡ a
  one_next number r m a b s t valid rule h k f g =
      let e : t ≡ s = one_least allows number m r t s valid rule k h in
      one_applied m b a r s (subst (λ (z : Site). IsApplied m r z b) e g) f

  one_made : (number : ℕ) (rs : List Rule) (m : Meaning) (j : ℕ) (a : Meaning) → Makes allows number rs m j a → (k : ℕ) (b : Meaning) → IsValid m → All IsRule rs → Makes allows number rs m k b → (j ≡ k) × (a ≡ b)
  one_made _ _ _ _ _ (ends number m) k b valid rules other = let c = case allows number [] m k b other in (sym c.0, c.1)
  one_made _ _ _ _ _ (goes_on number r rs m end steps none go) k b valid rules other = by (case allows number (r ∷ rs) m k b other) (one_made (number + 1) rs m steps end go k b valid (All-tail IsRule r rs rules))
    where
      by : Case allows number (r ∷ rs) m k b → (Makes allows (number + 1) rs m k b → (steps ≡ k) × (end ≡ b)) → (steps ≡ k) × (end ≡ b)
      by (inl w) then = then w.1
      by (inr w) then = absurd (none w.site w.least.applies)
  one_made _ _ _ _ _ (applies number r rs m next end s steps least applied go) k b valid rules other = by (case allows number (r ∷ rs) m k b other) (one_made number (r ∷ rs) next steps end go)
    where
      by : Case allows number (r ∷ rs) m k b → ((i : ℕ) (d : Meaning) → IsValid next → All IsRule (r ∷ rs) → Makes allows number (r ∷ rs) next i d → (steps ≡ i) × (end ≡ d)) → (suc steps ≡ k) × (end ≡ b)
      by (inl w) then = absurd (w.0 s least.applies)
      by (inr w) then =
          let e : w.next ≡ next = one_next number r m next w.next s w.site valid (All-head IsRule r rs rules) least w.least applied w.applied in
          let f = then w.rest b applied.trimmed.valid rules (subst (λ (z : Meaning). Makes allows number (r ∷ rs) z w.rest b) e w.makes) in
          (ap suc f.0 ∙ sym w.count, f.1)

  -- a run has no more applications than those by which it ends
  none_more : (number : ℕ) (rs : List Rule) (m : Meaning) (k : ℕ) → HasSteps allows number rs m k → (j : ℕ) (a : Meaning) → IsValid m → All IsRule rs → Makes allows number rs m j a → k ≤ j
  none_more _ _ _ _ (begins number rs m) j a valid rules other = omega arith
  none_more _ _ _ _ (goes_on_to number r rs m steps none go) j a valid rules other = by (case allows number (r ∷ rs) m j a other) (none_more (number + 1) rs m steps go j a valid (All-tail IsRule r rs rules))
    where
      by : Case allows number (r ∷ rs) m j a → (Makes allows (number + 1) rs m j a → steps ≤ j) → steps ≤ j
      by (inl w) then = then w.1
      by (inr w) then = absurd (none w.site w.least.applies)
  none_more _ _ _ _ (applies_first number r rs m next s steps least applied go) j a valid rules other = by (case allows number (r ∷ rs) m j a other) (none_more number (r ∷ rs) next steps go)
    where
      by : Case allows number (r ∷ rs) m j a → ((i : ℕ) (d : Meaning) → IsValid next → All IsRule (r ∷ rs) → Makes allows number (r ∷ rs) next i d → steps ≤ i) → suc steps ≤ j
      by (inl w) then = absurd (w.0 s least.applies)
      by (inr w) then =
          let e : w.next ≡ next = one_next number r m next w.next s w.site valid (All-head IsRule r rs rules) least w.least applied w.applied in
          let f = then w.rest a applied.trimmed.valid rules (subst (λ (z : Meaning). Makes allows number (r ∷ rs) z w.rest a) e w.makes) in
          let n = w.count in
          omega (arith, f, n)

  pub one : (rs : List Rule) (m a b : Meaning) (j k : ℕ) → IsValid m → All IsRule rs → IsResult allows rs m j a → IsResult allows rs m k b → (j ≡ k) × (a ≡ b)
  one rs m a b j k valid rules h g = one_made 0 rs m j a h.makes k b valid rules g.makes

  pub not_both : (rs : List Rule) (m a : Meaning) (j : ℕ) → IsValid m → All IsRule rs → IsResult allows rs m j a → HasNoResult allows rs m → ⊥
  not_both rs m a j valid rules h none =
      let l = none_more 0 rs m (budget m + 1) none j a valid rules h.makes in
      let n = h.within in
      omega (arith, l, n)
