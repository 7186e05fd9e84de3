-- What is left of variables, from the last one to the first, and the numbers that they get.
use Rattle.std.proofs.Common.{ℕ, ◌≡◌, ◌<◌, ◌≤◌, ◌+◌, ◌⊎◌, inl, inr, ◌∙◌, Bool, true, false, cond, Some, List, [], ◌∷◌, ◌++◌, length, get_or, take, drop, sym, subst, ap, arith}
use Rattle.std.specs.Prelude.{map, reverse}
use Rattle.std.specs.List.{AllZip, slice_get}
use Rattle.std.proofs.lemmas.Bool.{cases_lt}
use Rattle.std.proofs.lemmas.List.{length-map, get_or-map, get_or_append_left, get_or_push, get_or_default}
use Rattle.std.proofs.lemmas.Option.{slice_get-get_or}
use Rattle.mrs_transfer.specs.Inner.Trimming.{marked_from, kept_by}
use Rattle.mrs_transfer.proofs.Kept.{left_more}
use Rattle.mrs_transfer.proofs.Growing.{front_more, popped}

pub numbers_on : (marks : List Bool) (i : ℕ) (to : List ℕ) (next : ℕ) → length to ≡ i → next ≡ length (kept_by (take i marks)) → ((v : ℕ) → v < i → get_or to v 0 ≡ length (kept_by (take v marks)))
    → (v : ℕ) → v < i + 1 → get_or (to ++ next ∷ []) v 0 ≡ length (kept_by (take v marks))
numbers_on marks i to next n e h v l = by_case (cases_lt v i)
  where
    by_case : (v < i) ⊎ (i ≤ v) → get_or (to ++ next ∷ []) v 0 ≡ length (kept_by (take v marks))
    by_case (inl k) = get_or_append_left to (next ∷ []) 0 v (omega (arith, k, n)) ∙ h v k
    by_case (inr k) = let q : v ≡ i = omega (arith, k, l) in get_or_push to next 0 v (omega (arith, n, q)) ∙ (e ∙ ap (λ (z : ℕ). length (kept_by (take z marks))) (sym q))

-- a mark as it is read, under any default
pub marked_here : (marks : List Bool) (k n : ℕ) (d b : Bool) → get_or marks k d ≡ b → k ≡ n → n < length marks → b ≡ get_or marks n b
marked_here marks k n d b e q l = sym e ∙ (ap (λ (z : ℕ). get_or marks z d) q ∙ sym (get_or_default marks n b d l))

module _ {R X : Type 0} (g : R → X) where
  abbrev IsLeft : List R → ℕ → X → Type 0
  IsLeft vars v y = slice_get (map g vars) v ≡ Some y

  pub left_on : (marks : List Bool) (vars old new bs cs : List R) (x : R) (b : Bool) → length old ≤ length marks → length vars ≡ length marks → old ≡ take (length old) vars → old ≡ new ++ x ∷ [] → b ≡ get_or marks (length new) b
      → cs ≡ cond b (bs ++ x ∷ []) bs → AllZip (λ v y. slice_get (map g vars) v ≡ Some y) (marked_from (length old) (drop (length old) marks)) (map g (reverse bs))
      → AllZip (λ v y. slice_get (map g vars) v ≡ Some y) (marked_from (length new) (drop (length new) marks)) (map g (reverse cs))
  left_on marks vars old new bs cs x b few same front e at put h =
      let p = popped vars old new x front (omega (arith, few, same)) e in
      let n : length (map g vars) ≡ length vars = length-map vars g in
      let one : slice_get (map g vars) (length new) ≡ Some (g x) = slice_get-get_or (map g vars) (length new) (g x) (omega (arith, n, p.1)) ∙ ap (λ (y : X). Some y) (get_or-map g vars (length new) x (g x) p.1 ∙ ap g (sym p.3)) in
      let before : AllZip (IsLeft vars) (marked_from (length new + 1) (drop (length new + 1) marks)) (map g (reverse bs)) = subst (λ (k : ℕ). AllZip (IsLeft vars) (marked_from k (drop k marks)) (map g (reverse bs))) (sym p.0) h in
      subst (λ (ys : List X). AllZip (IsLeft vars) (marked_from (length new) (drop (length new) marks)) ys) (by_bit b put) (left_more marks (IsLeft vars) (map g (reverse bs)) (length new) (g x) b (omega (arith, p.1, same)) at one before)
    where
      by_bit : (c : Bool) → cs ≡ cond c (bs ++ x ∷ []) bs → cond c (g x ∷ map g (reverse bs)) (map g (reverse bs)) ≡ map g (reverse cs)
      by_bit true q = sym (ap (λ (zs : List R). map g (reverse zs)) q ∙ front_more g bs x)
      by_bit false q = sym (ap (λ (zs : List R). map g (reverse zs)) q)
