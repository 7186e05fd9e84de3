-- Runs over MRSs that are one but for the numbers of their variables, where a guard looks at the rule alone.
use Rattle.std.proofs.Common.{ℕ, ◌≡◌, ◌+◌, ◌*◌, ◌≤◌, Bool, List, length, sym, ◌∙◌, ap, subst, arith}
use Rattle.std.specs.Prelude.{All, Contains}
use Rattle.std.proofs.lemmas.List.{length-map}
use Rattle.std.proofs.lemmas.List.Elements.{All-head, All-tail, All-contains}
use Rattle.mrs_model.specs.Meanings.{Meaning}
use Rattle.mrs_model.specs.Valid.{IsValid}
use Rattle.mrs_reading.specs.Laws.{renumbered, IsRenumbering}
use Rattle.transfer_model.specs.Rules.{Rule, IsRule}
use Rattle.transfer_model.specs.Sites.{Site, IsSite, IsLeastSite}
use Rattle.transfer_model.specs.Applying.{removed, rewritten, IsTrimmed, IsApplied}
use Rattle.transfer_model.specs.Runs.{AppliesNowhere, Makes, ends, goes_on, applies, HasSteps, begins, goes_on_to, applies_first, budget, IsResult, HasNoResult}
use Rattle.transfer_model.proofs.RenumberMoved.{valid_within}
use Rattle.transfer_model.proofs.RenumberBack.{Twins, twins, back_of}
use Rattle.transfer_model.proofs.RenumberSites.{moved_site, site_moved, nowhere_moved, least_moved}
use Rattle.transfer_model.proofs.RenumberRewritten.{grown, rewritten_moved}
use Rattle.transfer_model.proofs.RenumberTrimmed.{trimmed_within, left_over, left_over_renumbered}

-- what is known of applications and results: each site has an application, and rules make of an MRS one result
abbrev pub EachIsApplied : Type 0
EachIsApplied = (m : Meaning) (r : Rule) (s : Site) → IsValid m → IsRule r → IsSite m r s → (a : Meaning) × IsApplied m r s a

abbrev pub OneResult : Type 0
OneResult = (allows : ℕ → Site → Bool) (rs : List Rule) (m a b : Meaning) (i j : ℕ) → IsValid m → All IsRule rs → IsResult allows rs m i a → IsResult allows rs m j b → (i ≡ j) × (a ≡ b)

one_first : (xs : List ℕ) (p q : ℕ) → Contains xs p → Contains xs q → All (λ x. p ≤ x) xs → All (λ x. q ≤ x) xs → q ≡ p
one_first xs p q c d h k = let a = All-contains (λ x. p ≤ x) xs q h d in let b = All-contains (λ x. q ≤ x) xs p k c in omega (arith, a, b)

-- what an application makes of the one is what it makes of the other
applied_moved : (m k : Meaning) (to : List ℕ) (r : Rule) (s : Site) (a b : Meaning) → IsValid m → IsRule r → IsRenumbering m k to → IsSite m r s → IsApplied m r s a → IsApplied k r (moved_site to s) b → (more : List ℕ) × IsRenumbering a b more
applied_moved m k to r s a b valid is n site p q =
    let u = moved_site to s in
    let f = one_first (removed r s) p.first q.first p.is_removed q.is_removed p.comes_first q.comes_first in
    let g = grown m k to r s valid is site n in
    let one = rewritten m r s p.first in
    let other = rewritten k r u p.first in
    let trimmed = subst (λ (z : ℕ). IsTrimmed (rewritten k r u z) b q.kept) f q.trimmed in
    let twin = twins one other g (trimmed_within one a p.kept p.trimmed) (rewritten_moved m k to r s valid is site n p.first) in
    (left_over g p.kept q.kept, left_over_renumbered one other a b g (back_of (length other.vars) g) p.kept q.kept twin p.trimmed trimmed)

twins_of : (m k : Meaning) (to : List ℕ) → IsValid m → IsRenumbering m k to → Twins m k to (back_of (length k.vars) to)
twins_of m k to v n = twins m k to (valid_within m v) n

-- a run over another MRS, with as many applications and the same result but for the numbers
record Follows (allows : ℕ → Site → Bool) (number : ℕ) (rs : List Rule) (k : Meaning) (steps : ℕ) (a : Meaning) : Type 0 where
  end : Meaning
  more : List ℕ
  makes : Makes allows number rs k steps end
  same : IsRenumbering a end more

module _ (allows : ℕ → Bool) (made : EachIsApplied) where
  abbrev by_number : ℕ → Site → Bool
  by_number n s = allows n

  -- the application at the site of the other MRS
  record Next (number : ℕ) (r : Rule) (k : Meaning) (a : Meaning) : Type 0 where
    site : Site
    next : Meaning
    more : List ℕ
    least : IsLeastSite by_number number r k site
    applied : IsApplied k r site next
    same : IsRenumbering a next more

  next_moved : (m k : Meaning) (to : List ℕ) (number : ℕ) (r : Rule) (s : Site) (a : Meaning) → IsValid m → IsValid k → IsRule r → IsRenumbering m k to → IsLeastSite by_number number r m s → IsApplied m r s a → Next number r k a
  next_moved m k to number r s a vm vk is n least p =
      let u = moved_site to s in
      let w = made k r u vk is (site_moved m k to r s is n least.applies.site) in
      let more = applied_moved m k to r s a w.0 vm is n least.applies.site p w.1 in
      record {
        site = u;
        next = w.0;
        more = more.0;
        least = least_moved allows number r is m k to (back_of (length k.vars) to) s (twins_of m k to vm n) least;
        applied = w.1;
        same = more.1;
      }

  idle_moved : (m k : Meaning) (to : List ℕ) (number : ℕ) (r : Rule) → IsValid m → IsRule r → IsRenumbering m k to → AppliesNowhere by_number number r m → AppliesNowhere by_number number r k
  idle_moved m k to number r vm is n idle = nowhere_moved allows number r is m k to (back_of (length k.vars) to) (twins_of m k to vm n) idle

  run_moved : {number : ℕ} {rs : List Rule} {m : Meaning} {i : ℕ} {a : Meaning} (k : Meaning) (to : List ℕ) → All IsRule rs → IsValid m → IsValid k → IsRenumbering m k to → Makes by_number number rs m i a → Follows by_number number rs k i a
  run_moved k to is vm vk n (ends number m) = record { end = k; more = to; makes = ends number k; same = n }
  run_moved k to is vm vk n (goes_on number r rs m a i idle rest) =
      let w = run_moved k to (All-tail IsRule r rs is) vm vk n rest in
      record { end = w.end; more = w.more; makes = goes_on number r rs k w.end i (idle_moved m k to number r vm (All-head IsRule r rs is) n idle) w.makes; same = w.same }
  run_moved k to is vm vk n (applies number r rs m next a s i least applied rest) =
      let f = next_moved m k to number r s next vm vk (All-head IsRule r rs is) n least applied in
      let w = run_moved f.next f.more is applied.trimmed.valid f.applied.trimmed.valid f.same rest in
      record { end = w.end; more = w.more; makes = applies number r rs k f.next w.end f.site i f.least f.applied w.makes; same = w.same }

  steps_moved : {number : ℕ} {rs : List Rule} {m : Meaning} {i : ℕ} (k : Meaning) (to : List ℕ) → All IsRule rs → IsValid m → IsValid k → IsRenumbering m k to → HasSteps by_number number rs m i → HasSteps by_number number rs k i
  steps_moved k to is vm vk n (begins number rs m) = begins number rs k
  steps_moved k to is vm vk n (goes_on_to number r rs m i idle rest) =
      goes_on_to number r rs k i (idle_moved m k to number r vm (All-head IsRule r rs is) n idle) (steps_moved k to (All-tail IsRule r rs is) vm vk n rest)
  steps_moved k to is vm vk n (applies_first number r rs m next s i least applied rest) =
      let f = next_moved m k to number r s next vm vk (All-head IsRule r rs is) n least applied in
      applies_first number r rs k f.next f.site i f.least f.applied (steps_moved f.next f.more is applied.trimmed.valid f.applied.trimmed.valid f.same rest)

-- an application makes a valid MRS, so what is made of a valid one is valid
run_valid : (allows : ℕ → Site → Bool) {number : ℕ} {rs : List Rule} {m : Meaning} {j : ℕ} {end : Meaning} → IsValid m → Makes allows number rs m j end → IsValid end
run_valid allows v (ends number m) = v
run_valid allows v (goes_on number r rs m end steps idle rest) = run_valid allows v rest
run_valid allows v (applies number r rs m next end s steps least applied rest) = run_valid allows applied.trimmed.valid rest

pub result_valid : (allows : ℕ → Site → Bool) (rs : List Rule) (m a : Meaning) (j : ℕ) → IsValid m → IsResult allows rs m j a → IsValid a
result_valid allows rs m a j v p = run_valid allows v p.makes

same_budget : (m k : Meaning) (to : List ℕ) → IsRenumbering m k to → budget m ≡ budget k
same_budget m k to n = ap (λ z. 16 * (z + 1)) (sym (ap length (sym n.eps) ∙ length-map m.eps (renumbered to)))

pub result : EachIsApplied → OneResult → (allows : ℕ → Bool) (rs : List Rule) (m k a b : Meaning) (i j : ℕ) (to : List ℕ) → IsValid m → IsValid k → All IsRule rs → IsRenumbering m k to
    → IsResult (λ n s. allows n) rs m i a → IsResult (λ n s. allows n) rs k j b → (i ≡ j) × ((more : List ℕ) × IsRenumbering a b more)
result made one allows rs m k a b i j to vm vk is n p q =
    let w = run_moved allows made k to is vm vk n p.makes in
    let e = one (λ n s. allows n) rs k w.end b i j vk is (record { makes = w.makes; within = subst (λ (z : ℕ). i ≤ z) (same_budget m k to n) p.within }) q in
    (e.0, (w.more, subst (λ (z : Meaning). IsRenumbering a z w.more) e.1 w.same))

pub none : EachIsApplied → (allows : ℕ → Bool) (rs : List Rule) (m k : Meaning) (to : List ℕ) → IsValid m → IsValid k → All IsRule rs → IsRenumbering m k to
    → HasNoResult (λ n s. allows n) rs m → HasNoResult (λ n s. allows n) rs k
none made allows rs m k to vm vk is n h = subst (λ (z : ℕ). HasSteps (λ n s. allows n) 0 rs k (z + 1)) (same_budget m k to n) (steps_moved allows made k to is vm vk n h)
