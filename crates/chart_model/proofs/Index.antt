-- An index may give too many rows: what it gives has to rise, and to miss none that gives a task.
use Rattle.std.specs.Prelude.{◌≡◌, ℕ, ◌+◌, ◌-◌, ◌<◌, ◌≤◌, Option, Some, None, List, [], ◌∷◌, refl, slice_get}
use Rattle.std.proofs.Common.{zero, suc, ap, subst, sym, ◌∙◌, arith, inl, inr}
use Rattle.std.proofs.Math.Nat.{eq-or-lt_of_le}
use Rattle.chart_model.specs.Calculus.{Calculus}
use Rattle.chart_model.specs.Tuples.{on_list}
use Rattle.chart_model.specs.Chart.{Row, Task, gather}
use Rattle.chart_model.specs.At.{At, here, there}
use Rattle.chart_model.specs.Picked.{Rises, no_more, next_is, at_row, picked}

module _ {M C : Type 0} (k : Calculus M C) (f : ℕ → Row M C → Option Task) where
  none_past : (get : ℕ → Option (Row M C)) (i : ℕ) (ps : List ℕ) → ((j : ℕ) → i ≤ j → get j ≡ None) → Rises i ps → picked k f get ps ≡ []
  none_past get i [] past no_more = refl
  none_past get i (_ ∷ ps) past (next_is p l more) = rw (past p l) (none_past get (p + 1) ps (λ j q. past j (omega arith)) more)

  rises_least : (i : ℕ) (ps : List ℕ) → Rises i ps → (n x : ℕ) → At ps n x → i ≤ x
  rises_least i [] no_more n x a = elim a [ ]
  rises_least i (_ ∷ ps) (next_is p l more) zero x (here) = l
  rises_least i (_ ∷ ps) (next_is p l more) (suc n) x (there a) = let r = rises_least (p + 1) ps more n x a in omega arith

  -- the row at i gives nothing where no number is i
  passed : (i : ℕ) (w : Row M C) (rows : List (Row M C)) (ps : List ℕ) → Rises (i + 1) ps → ((j : ℕ) (row : Row M C) (t : Task) → At (w ∷ rows) j row → f (i + j) row ≡ Some t → (n : ℕ) × At ps n (i + j)) → (o : Option Task) → f i w ≡ o → o ≡ None
  passed i w rows ps rises found None e = refl
  passed i w rows ps rises found (Some t) e =
      let z : i + 0 ≡ i = omega arith in
      let r = found 0 w t here (subst (λ n. f n w ≡ Some t) (sym z) e) in
      absurd (let l = rises_least (i + 1) ps rises r.0 (i + 0) r.1 in omega arith)

  pub gather-picked : (get : ℕ → Option (Row M C)) (i : ℕ) (rows : List (Row M C)) (ps : List ℕ) → ((j : ℕ) → get (i + j) ≡ slice_get rows j) → Rises i ps → ((j : ℕ) (row : Row M C) (t : Task) → At rows j row → f (i + j) row ≡ Some t → (n : ℕ) × At ps n (i + j)) → gather k f i rows ≡ picked k f get ps
  gather-picked get i [] ps same rises found = sym (none_past get i ps (λ j l. let z : i + (j - i) ≡ j = omega arith in subst (λ n. get n ≡ None) z (same (j - i))) rises)
  gather-picked get i (w ∷ rows) ps same rises found = by_first ps rises found (λ qs r g. gather-picked get (i + 1) rows qs (λ j. let z : i + suc j ≡ (i + 1) + j = omega arith in subst (λ n. get n ≡ slice_get rows j) z (same (suc j))) r g)
    where
      shifted : (ps : List ℕ) → ((j : ℕ) (row : Row M C) (t : Task) → At (w ∷ rows) j row → f (i + j) row ≡ Some t → (n : ℕ) × At ps n (i + j)) → (j : ℕ) (row : Row M C) (t : Task) → At rows j row → f ((i + 1) + j) row ≡ Some t → (n : ℕ) × At ps n ((i + 1) + j)
      shifted ps found j row t a e =
          let z : i + suc j ≡ (i + 1) + j = omega arith in
          let r = found (suc j) row t (there a) (subst (λ n. f n row ≡ Some t) (sym z) e) in
          (r.0, subst (λ n. At ps r.0 n) z r.1)

      skipped : (ps : List ℕ) → Rises (i + 1) ps → ((j : ℕ) (row : Row M C) (t : Task) → At (w ∷ rows) j row → f (i + j) row ≡ Some t → (n : ℕ) × At ps n (i + j)) → gather k f (i + 1) rows ≡ picked k f get ps → gather k f i (w ∷ rows) ≡ picked k f get ps
      skipped ps r found e = let z = passed i w rows ps r found (f i w) refl in ap (λ o. on_list o (gather k f (i + 1) rows)) z ∙ e

      tail_of : (p : ℕ) (ps : List ℕ) (n x : ℕ) → At (p ∷ ps) n x → p < x → (m : ℕ) × At ps m x
      tail_of p ps zero x (here) l = absurd (omega arith)
      tail_of p ps (suc n) x (there a) l = (n, a)

      by_first : (ps : List ℕ) → Rises i ps → ((j : ℕ) (row : Row M C) (t : Task) → At (w ∷ rows) j row → f (i + j) row ≡ Some t → (n : ℕ) × At ps n (i + j)) → ((qs : List ℕ) → Rises (i + 1) qs → ((j : ℕ) (row : Row M C) (t : Task) → At rows j row → f ((i + 1) + j) row ≡ Some t → (n : ℕ) × At qs n ((i + 1) + j)) → gather k f (i + 1) rows ≡ picked k f get qs) → gather k f i (w ∷ rows) ≡ picked k f get ps
      by_first [] no_more found deeper = skipped [] no_more found (deeper [] no_more (shifted [] found))
      by_first (_ ∷ ps) (next_is p l more) found deeper = elim (eq-or-lt_of_le l) [ inl e ↦ at_it e | inr q ↦ (let r : Rises (i + 1) (p ∷ ps) = next_is p (omega arith) more in skipped (p ∷ ps) r found (deeper (p ∷ ps) r (shifted (p ∷ ps) found))) ]
        where
          at_it : i ≡ p → gather k f i (w ∷ rows) ≡ picked k f get (p ∷ ps)
          at_it e =
              let z : i + 0 ≡ p = omega arith in
              let here_is : get p ≡ Some w = subst (λ n. get n ≡ Some w) z (same 0) in
              let first : at_row k f p (get p) ≡ f i w = rw here_is (ap (λ n. f n w) (sym e)) in
              let rest = deeper ps (subst (λ n. Rises (n + 1) ps) (sym e) more) (λ j row t a g. let s = shifted (p ∷ ps) found j row t a g in tail_of p ps s.0 ((i + 1) + j) s.1 (omega arith)) in
              ap (λ o. on_list o (gather k f (i + 1) rows)) (sym first) ∙ ap (on_list (at_row k f p (get p))) rest
