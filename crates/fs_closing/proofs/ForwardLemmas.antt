-- Forwards whose nodes were merged one after another.
use Rattle.std.proofs.Common.{ℕ, zero, suc, ◌≡◌, ◌≢◌, ◌≤◌, ◌<◌, ◌+◌, ◌-◌, ◌⊎◌, inl, inr, true, false, refl, sym, ◌∙◌, ap, subst, arith, eq-eqb}
use Rattle.std.proofs.lemmas.Bool.{ne_eqb}
use Rattle.fs_model.proofs.StepLemmas.{same_or_other}
use Rattle.fs_closing.specs.Marked.{chase, Rises}

pub chase_stays : (next : ℕ → ℕ) (k n : ℕ) → next n ≡ n → chase next k n ≡ n
chase_stays next zero n e = refl
chase_stays next (suc k) n e = ap (λ b. elim b [ true ↦ n | false ↦ chase next k (next n) ]) (eq-eqb (next n) n e)

pub chase_goes : (next : ℕ → ℕ) (k n : ℕ) → next n ≢ n → chase next (suc k) n ≡ chase next k (next n)
chase_goes next k n h = ap (λ b. elim b [ true ↦ n | false ↦ chase next k (next n) ]) (ne_eqb (next n) n h)

-- one forward on, as code goes
pub chase_on : (next : ℕ → ℕ) (k n m : ℕ) → k ≢ 0 → m ≡ next n → m ≢ n → chase next (k - 1) m ≡ chase next k n
chase_on next zero n m some is away = absurd (some refl)
chase_on next (suc k) n m some is away =
    let one : suc k - 1 ≡ k = omega arith in
    ap (λ j. chase next j m) one ∙ ap (chase next k) is ∙ sym (chase_goes next k n (λ e. away (is ∙ e)))

-- the same forwards
pub chase_same : (next next' : ℕ → ℕ) → ((n : ℕ) → next' n ≡ next n) → (k n : ℕ) → chase next' k n ≡ chase next k n
chase_same next next' e zero n = refl
chase_same next next' e (suc k) n = go (same_or_other (next n) n) (chase_same next next' e k (next n))
  where
    go : (next n ≡ n) ⊎ (next n ≢ n) → chase next' k (next n) ≡ chase next k (next n) → chase next' (suc k) n ≡ chase next (suc k) n
    go (inl q) _ = chase_stays next' (suc k) n (e n ∙ q) ∙ sym (chase_stays next (suc k) n q)
    go (inr q) rest =
        chase_goes next' k n (λ d. q (sym (e n) ∙ d)) ∙ ap (chase next' k) (e n) ∙ rest ∙ sym (chase_goes next k n q)

pub Rises-same : (next next' : ℕ → ℕ) (merges : ℕ) → ((n : ℕ) → next' n ≡ next n) → Rises next merges → Rises next' merges
Rises-same next next' merges e old = record {
  time = old.time;
  bounded = λ n h. old.bounded n (λ q. h (e n ∙ q));
  later = λ n h i.
      subst (λ x. old.time n < old.time x) (sym (e n))
      (old.later n (λ q. h (e n ∙ q)) (λ q. i (e (next' n) ∙ ap next (e n) ∙ q ∙ sym (e n))));
}

-- so many forwards are enough from a node on
abbrev pub Enough : (ℕ → ℕ) → (ℕ → ℕ) → ℕ → ℕ → ℕ → Type 0
Enough next time merges k n = (next n ≡ n) ⊎ (merges ≤ time n + k)

module _ (next : ℕ → ℕ) (merges : ℕ) (rises : Rises next merges) where
  pub enough : (n : ℕ) → Enough next rises.time merges merges n
  enough n = inr (omega arith)

  further : (k n : ℕ) → next n ≢ n → Enough next rises.time merges (suc k) n → Enough next rises.time merges k (next n)
  further k n h (inl e) = absurd (h e)
  further k n h (inr x) = go (same_or_other (next (next n)) (next n))
    where
      go : (next (next n) ≡ next n) ⊎ (next (next n) ≢ next n) → Enough next rises.time merges k (next n)
      go (inl e) = inl e
      go (inr e) = inr (omega (arith, rises.later n h e))

  pub chase_fix : (k n : ℕ) → Enough next rises.time merges k n → next (chase next k n) ≡ chase next k n
  chase_fix zero n (inl e) = e
  chase_fix zero n (inr x) = go (same_or_other (next n) n)
    where
      go : (next n ≡ n) ⊎ (next n ≢ n) → next n ≡ n
      go (inl e) = e
      go (inr e) = absurd (omega (arith, rises.bounded n e))
  chase_fix (suc k) n x = go (same_or_other (next n) n) (chase_fix k (next n))
    where
      go : (next n ≡ n) ⊎ (next n ≢ n) → (Enough next rises.time merges k (next n) → next (chase next k (next n)) ≡ chase next k (next n)) →
          next (chase next (suc k) n) ≡ chase next (suc k) n
      go (inl e) _ = ap next (chase_stays next (suc k) n e) ∙ e ∙ sym (chase_stays next (suc k) n e)
      go (inr e) rest = ap next (chase_goes next k n e) ∙ rest (further k n e x) ∙ sym (chase_goes next k n e)

  -- the node that a node stands for stands for itself
  pub live_fix : (n : ℕ) → next (chase next merges n) ≡ chase next merges n
  live_fix n = chase_fix merges n (enough n)

  pub live_twice : (n : ℕ) → chase next merges (chase next merges n) ≡ chase next merges n
  live_twice n = chase_stays next merges (chase next merges n) (live_fix n)

  -- a node that stands for itself isn't forwarded
  pub live_next : (n : ℕ) → chase next merges n ≡ n → next n ≡ n
  live_next n e = subst (λ k. next k ≡ k) e (live_fix n)

  chase_in : (size : ℕ) → ((n : ℕ) → n < size → next n < size) → (k n : ℕ) → n < size → chase next k n < size
  chase_in size inside zero n h = h
  chase_in size inside (suc k) n h = go (same_or_other (next n) n) (chase_in size inside k (next n))
    where
      go : (next n ≡ n) ⊎ (next n ≢ n) → (next n < size → chase next k (next n) < size) → chase next (suc k) n < size
      go (inl e) _ = subst (λ x. x < size) (sym (chase_stays next (suc k) n e)) h
      go (inr e) rest = subst (λ x. x < size) (sym (chase_goes next k n e)) (rest (inside n h))

  pub live_in : (size : ℕ) → ((n : ℕ) → n < size → next n < size) → (n : ℕ) → n < size → chase next merges n < size
  live_in size inside n h = chase_in size inside merges n h

  -- a live node is forwarded to another
  module _ (next' : ℕ → ℕ) (a b : ℕ) (apart : a ≢ b) (a_stays : next a ≡ a) (b_stays : next b ≡ b) (at_b : next' b ≡ a)
      (at_other : (n : ℕ) → n ≢ b → next' n ≡ next n) where
    pub a_still : next' a ≡ a
    a_still = at_other a apart ∙ a_stays

    b_goes : next' b ≢ b
    b_goes e = apart (sym at_b ∙ e)

    -- the time of a merge
    abbrev time_after : (n : ℕ) → (n ≡ b) ⊎ (n ≢ b) → ℕ
    time_after n (inl _) = merges
    time_after n (inr _) = rises.time n

    pub Rises-set : Rises next' (suc merges)
    Rises-set = record {
      time = λ n. time_after n (same_or_other n b);
      bounded = λ n. bounded n (same_or_other n b);
      later = λ n. later n (same_or_other n b) (same_or_other (next' n) b);
    }
      where
        bounded : (n : ℕ) (d : (n ≡ b) ⊎ (n ≢ b)) → next' n ≢ n → time_after n d < suc merges
        bounded n (inl e) h = let x : merges < suc merges = omega arith in x
        bounded n (inr e) h =
            let old = rises.bounded n (λ q. h (at_other n e ∙ q)) in let x : rises.time n < suc merges = omega (arith, old) in x

        later : (n : ℕ) (d : (n ≡ b) ⊎ (n ≢ b)) (d' : (next' n ≡ b) ⊎ (next' n ≢ b)) → next' n ≢ n → next' (next' n) ≢ next' n →
            time_after n d < time_after (next' n) d'
        later n (inl e) d' h i =
            let to_a : next' n ≡ a = ap next' e ∙ at_b in absurd (i (ap next' to_a ∙ a_still ∙ sym to_a))
        later n (inr e) (inl e') h i = rises.bounded n (λ q. h (at_other n e ∙ q))
        later n (inr e) (inr e') h i =
            let to = at_other n e in
            let away : next n ≢ n = λ q. h (to ∙ q) in
            let on : next (next n) ≢ next n =
            λ q. i (at_other (next' n) e' ∙ ap next to ∙ q ∙ sym to) in
            subst (λ x. rises.time n < rises.time x) (sym to) (rises.later n away on)

    -- what a chase gives after the write
    abbrev pub Moved : ℕ → ℕ → Type 0
    Moved old new = (old ≡ b → new ≡ a) × (old ≢ b → new ≡ old)

    moved_gone : (k n : ℕ) → n ≡ b → Moved (chase next k n) (chase next' (suc k) n)
    moved_gone k n e =
        let stays : next n ≡ n = subst (λ y. next y ≡ y) (sym e) b_stays in
        let to_a : next' n ≡ a = ap next' e ∙ at_b in
        let away : next' n ≢ n = λ d. apart (sym to_a ∙ d ∙ e) in
        let ends : chase next' (suc k) n ≡ a = chase_goes next' k n away ∙ ap (chase next' k) to_a ∙ chase_stays next' k a a_still in
        (λ d. ends, λ d. absurd (d (chase_stays next k n stays ∙ e)))

    moved_live : (k n : ℕ) → n ≢ b → next n ≡ n → Moved (chase next k n) (chase next' (suc k) n)
    moved_live k n e q =
        let old = chase_stays next k n q in
        let new = chase_stays next' (suc k) n (at_other n e ∙ q) in
        (λ d. absurd (e (sym old ∙ d)), λ d. new ∙ sym old)

    chase_set : (k n : ℕ) → Enough next rises.time merges k n → Moved (chase next k n) (chase next' (suc k) n)
    chase_set zero n x = go (same_or_other n b) (same_or_other (next n) n) x
      where
        go : (n ≡ b) ⊎ (n ≢ b) → (next n ≡ n) ⊎ (next n ≢ n) → Enough next rises.time merges zero n → Moved (chase next zero n) (chase next' (suc zero) n)
        go (inl e) _ _ = moved_gone zero n e
        go (inr e) (inl q) _ = moved_live zero n e q
        go (inr e) (inr q) (inl z) = absurd (q z)
        go (inr e) (inr q) (inr z) = absurd (let old = rises.bounded n q in omega (arith, old, z))
    chase_set (suc k) n x = go (same_or_other n b) (same_or_other (next n) n) (chase_set k (next n))
      where
        go : (n ≡ b) ⊎ (n ≢ b) → (next n ≡ n) ⊎ (next n ≢ n) →
            (Enough next rises.time merges k (next n) → Moved (chase next k (next n)) (chase next' (suc k) (next n))) →
            Moved (chase next (suc k) n) (chase next' (suc (suc k)) n)
        go (inl e) _ _ = moved_gone (suc k) n e
        go (inr e) (inl q) _ = moved_live (suc k) n e q
        go (inr e) (inr q) rest =
            let r = rest (further k n q x) in
            let away' : next' n ≢ n = λ d. q (sym (at_other n e) ∙ d) in
            let old = chase_goes next k n q in
            let new = chase_goes next' (suc k) n away' ∙ ap (chase next' (suc k)) (at_other n e) in
            (λ d. new ∙ r.0 (sym old ∙ d), λ d. new ∙ r.1 (λ y. d (old ∙ y)) ∙ sym old)

    pub live_set : (n : ℕ) → Moved (chase next merges n) (chase next' (suc merges) n)
    live_set n = chase_set merges n (enough n)
