-- Tables that forbid only what never applies.
use Rattle.std.specs.Prelude.{ℕ, ◌≡◌, ◌<◌, ◌⊎◌, Bool, true, false, List, ◌∷◌, length}
use Rattle.std.proofs.Common.{inl, inr, sym, ◌∙◌, subst}
use Rattle.chart_model.specs.At.{At, at_one}
use Rattle.chart_model.specs.Calculus.{Along, along_none, along_more}
use Rattle.tree_model.specs.Structures.{Structure}
use Rattle.tree_model.specs.Signs.{Signs}
use Rattle.tree_model.specs.Lexical.{FullUnder, under_next, IsUnderRule}
use Rattle.morph_analysis.specs.Allowed.{FeedsTree, AllMay, in_table, IsAllowed, AreAllowedAfter}
use Rattle.morph_analysis.proofs.Lists.{bools}
use Rattle.lexical_items.specs.Places.{place_in}
use Rattle.lexical_items.specs.Seen.{ForbidsNone}
use Rattle.lexical_items.specs.Inner.Feeding.{NeverFollows, IsHarmless, ForbidsAtMost}
use Rattle.lexical_items.proofs.Treed.{placed}

pub below : (rules : List ℕ) {n count : ℕ} → count ≡ length rules → n < count → n < length rules
below rules {n = n} e h = subst (λ k. n < k) e h

module _ (g : Signs) (rules : List ℕ) where
  pub harmless_none : (f : FeedsTree) → f.rules ≡ length rules → AllMay f.on_entry → AllMay f.on_rule → IsHarmless g rules f
  harmless_none f e p q = record { counted = e; on_entry = p; on_rule = λ i j x y a b h. absurd (let z : true ≡ false = sym (q i j) ∙ h in cc) }

  pub harmless_next : (inner outer place next : ℕ) (may : Bool) (old new : FeedsTree) → IsHarmless g rules old → inner < length rules → outer < length rules → place ≡ place_in rules inner → next ≡ place_in rules outer → (may ≡ false → NeverFollows g place next) → ForbidsAtMost inner outer may old new → IsHarmless g rules new
  harmless_next inner outer place next may old new h lt lu e d never at = record {
    counted = at.rules_same ∙ h.counted;
    on_entry = at.entries_may h.on_entry;
    on_rule = λ i j p q a b k. by_case i j p q a b (at.others i j k);
  }
    where
      by_case : (i j p q : ℕ) → At rules i p → At rules j q → (in_table old.on_rule i j ≡ false) ⊎ ((may ≡ false) × (i ≡ inner) × (j ≡ outer)) → NeverFollows g p q
      by_case i j p q a b (inl k) = h.on_rule i j p q a b k
      by_case i j p q a b (inr k) =
          let x : place ≡ p = e ∙ at_one (placed rules inner lt) (subst (λ m. At rules m p) k.1 a) in
          let y : next ≡ q = d ∙ at_one (placed rules outer lu) (subst (λ m. At rules m q) k.2 b) in
          subst (λ m. NeverFollows g m q) x (subst (λ m. NeverFollows g place m) y (never k.0))

  module _ (f : FeedsTree) (h : IsHarmless g rules f) where
    after : {r q : ℕ} {rs ps : List ℕ} {d e u : Structure} → At rules r q → IsUnderRule g q d e → Along (At rules) rs ps → FullUnder g e ps u → AreAllowedAfter f r rs
    after a x along_none y = tt
    after {r = r} {q = q} a x (along_more {x = s} {y = p} b more) (under_next z zs) = by_case (after b z more zs) (λ k. h.on_rule r s q p a b k _ _ _ x z) (bools (in_table f.on_rule r s))
      where
        by_case : {rest : Type 0} → rest → (in_table f.on_rule r s ≡ false → ⊥) → (in_table f.on_rule r s ≡ true) ⊎ (in_table f.on_rule r s ≡ false) → (in_table f.on_rule r s ≡ true) × rest
        by_case w never (inl t) = (t, w)
        by_case w never (inr k) = absurd (never k)

    allowed : (entry : ℕ) {r q : ℕ} {rs ps : List ℕ} {d u : Structure} → At rules r q → Along (At rules) rs ps → FullUnder g d (q ∷ ps) u → IsAllowed f entry (r ∷ rs)
    allowed entry {r = r} a more (under_next z zs) = (h.on_entry entry r, after a z more zs)

    pub forbids_none : (entries : List ℕ) → ForbidsNone g entries rules f
    forbids_none entries entry p _ _ u a along_none full = tt
    forbids_none entries entry p _ _ u a (along_more b more) full = allowed entry b more full.2
