-- What is forced, and the closure.
use Rattle.std.proofs.Common.{ℕ, ◌≡◌, ◌<◌, ◌≤◌, ◌-◌, ◌⊎◌, inl, inr, [], ◌∷◌, ◌++◌, length, take, drop, sym, ◌∙◌, ap, subst, arith, length-append, append_assoc}
use Rattle.std.proofs.lemmas.Bool.{cases_lt}
use Rattle.std.proofs.lemmas.List.{take-append-drop, length-take-le}
use Rattle.fs_model.specs.Claims.{Path, Claim, exists_at, same, below, at, System}
use Rattle.fs_model.specs.Closure.{Closure, given_claim as closure_given, same_exists as closure_same_exists, below_exists as closure_below_exists, prefix as closure_prefix, same_refl as closure_refl, same_sym as closure_sym, same_trans as closure_trans, same_extend as closure_extend, same_type as closure_type, introduced as closure_introduced, met as closure_met, raised as closure_raised, topped as closure_topped, constrained as closure_constrained}
use Rattle.forced_types.specs.Forced.{Forced, IsWithin, IsPathIn, given_claim, given_front, same_exists, below_exists, prefix, same_refl, same_sym, same_trans, same_extend, same_type, introduced, met, raised, topped, constrained, constrained_front}

-- no path in what is forced is longer than the bound
pub forced_within : (s : System) (most : ℕ) (g : Claim → Type 0) (c : Claim) → Forced s most g c → IsWithin most c
forced_within s most g _ (given_claim c h w) = w
forced_within s most g _ (given_front c p q h i l) = l
forced_within s most g _ (same_exists p q a) = (forced_within s most g _ a).0
forced_within s most g _ (below_exists p t a) = forced_within s most g _ a
forced_within s most g _ (prefix p q a) =
    let h : length (p ++ q) ≤ most = forced_within s most g _ a in
    omega (arith, length-append p q)
forced_within s most g _ (same_refl p a) = (forced_within s most g _ a, forced_within s most g _ a)
forced_within s most g _ (same_sym p q a) = ((forced_within s most g _ a).1, (forced_within s most g _ a).0)
forced_within s most g _ (same_trans p q r a b) = ((forced_within s most g _ a).0, (forced_within s most g _ b).1)
forced_within s most g _ (same_extend p q r a b l) = (forced_within s most g _ b, l)
forced_within s most g _ (same_type p q t a b) = (forced_within s most g _ a).1
forced_within s most g _ (introduced p f a) =
    let h : length (p ++ f ∷ []) ≤ most = forced_within s most g _ a in
    omega (arith, length-append p (f ∷ []))
forced_within s most g _ (met p t u m a b e) = forced_within s most g _ a
forced_within s most g _ (raised p t u a e) = forced_within s most g _ a
forced_within s most g _ (topped p a) = forced_within s most g _ a
forced_within s most g _ (constrained p t c a i w) = w
forced_within s most g _ (constrained_front p t c q r a i h l) = l

-- the paths of a claim exist
path_exists : (s : System) (g : Claim → Type 0) (c : Claim) (x : Path) → Closure s g c → IsPathIn x c → Closure s g (exists_at x)
path_exists s g (exists_at p) x a e = subst (λ z. Closure s g (exists_at z)) e a
path_exists s g (same p q) x a (inl e) = subst (λ z. Closure s g (exists_at z)) e (closure_same_exists p q a)
path_exists s g (same p q) x a (inr e) = subst (λ z. Closure s g (exists_at z)) e (closure_same_exists q p (closure_sym p q a))
path_exists s g (below p t) x a e = subst (λ z. Closure s g (exists_at z)) e (closure_below_exists p t a)

-- what is forced is in the closure
pub closure_from_forced : (s : System) (most : ℕ) (g : Claim → Type 0) (c : Claim) → Forced s most g c → Closure s g c
closure_from_forced s most g _ (given_claim c h w) = closure_given c h
closure_from_forced s most g _ (given_front c p q h i l) = closure_prefix p q (path_exists s g c (p ++ q) (closure_given c h) i)
closure_from_forced s most g _ (same_exists p q a) = closure_same_exists p q (closure_from_forced s most g _ a)
closure_from_forced s most g _ (below_exists p t a) = closure_below_exists p t (closure_from_forced s most g _ a)
closure_from_forced s most g _ (prefix p q a) = closure_prefix p q (closure_from_forced s most g _ a)
closure_from_forced s most g _ (same_refl p a) = closure_refl p (closure_from_forced s most g _ a)
closure_from_forced s most g _ (same_sym p q a) = closure_sym p q (closure_from_forced s most g _ a)
closure_from_forced s most g _ (same_trans p q r a b) = closure_trans p q r (closure_from_forced s most g _ a) (closure_from_forced s most g _ b)
closure_from_forced s most g _ (same_extend p q r a b l) = closure_extend p q r (closure_from_forced s most g _ a) (closure_from_forced s most g _ b)
closure_from_forced s most g _ (same_type p q t a b) = closure_type p q t (closure_from_forced s most g _ a) (closure_from_forced s most g _ b)
closure_from_forced s most g _ (introduced p f a) = closure_introduced p f (closure_from_forced s most g _ a)
closure_from_forced s most g _ (met p t u m a b e) = closure_met p t u m (closure_from_forced s most g _ a) (closure_from_forced s most g _ b) e
closure_from_forced s most g _ (raised p t u a e) = closure_raised p t u (closure_from_forced s most g _ a) e
closure_from_forced s most g _ (topped p a) = closure_topped p (closure_from_forced s most g _ a)
closure_from_forced s most g _ (constrained p t c a i w) = closure_constrained p t c (closure_from_forced s most g _ a) i
closure_from_forced s most g _ (constrained_front p t c q r a i h l) =
    closure_prefix q r (path_exists s g (at p c) (q ++ r) (closure_constrained p t c (closure_from_forced s most g _ a) i) h)

-- what is in the closure is forced, where no path as long as the bound is
module _ (s : System) (most : ℕ) (g : Claim → Type 0) (none : (p : Path) → Forced s most g (exists_at p) → length p ≡ most → ⊥) where
  path_within : (p : Path) → ((q r : Path) → q ++ r ≡ p → length q ≤ most → Forced s most g (exists_at q)) → length p ≤ most
  path_within p fronts = go (cases_lt (length p) most)
    where
      go : (length p < most) ⊎ (most ≤ length p) → length p ≤ most
      go (inl h) = omega arith
      go (inr h) =
          let long = length-take-le most p h in
          absurd (none (take most p) (fronts (take most p) (drop most p) (take-append-drop most p) (omega arith)) long)

  claim_within : (c : Claim) → ((q r : Path) → IsPathIn (q ++ r) c → length q ≤ most → Forced s most g (exists_at q)) → IsWithin most c
  claim_within (exists_at p) fronts = path_within p (λ q r e l. fronts q r (sym e) l)
  claim_within (same p p') fronts =
      (path_within p (λ q r e l. fronts q r (inl (sym e)) l), path_within p' (λ q r e l. fronts q r (inr (sym e)) l))
  claim_within (below p t) fronts = path_within p (λ q r e l. fronts q r (sym e) l)

  extension_within : (p q r : Path) → Forced s most g (same p q) → Forced s most g (exists_at (p ++ r)) → length (q ++ r) ≤ most
  extension_within p q r a b = go (cases_lt (length (q ++ r)) most)
    where
      q_in : length q ≤ most
      q_in = (forced_within s most g _ a).1

      go : (length (q ++ r) < most) ⊎ (most ≤ length (q ++ r)) → length (q ++ r) ≤ most
      go (inl h) = omega arith
      go (inr h) =
          let left : ℕ = most - length q in
          let whole = length-append q r in
          let enough : left ≤ length r = omega (arith, q_in) in
          let long = length-take-le left r enough in
          let long' = length-append q (take left r) in
          let is : length (q ++ take left r) ≡ most = omega (arith, q_in) in
          let split : (p ++ take left r) ++ drop left r ≡ p ++ r = append_assoc p (take left r) (drop left r) ∙ ap (λ x. p ++ x) (take-append-drop left r) in
          let there = prefix (p ++ take left r) (drop left r) (subst (λ x. Forced s most g (exists_at x)) (sym split) b) in
          let both = same_extend p q (take left r) a there (omega arith) in
          absurd (none (q ++ take left r) (same_exists _ _ (same_sym _ _ both)) is)

  pub forced_from_closure : (c : Claim) → Closure s g c → Forced s most g c
  forced_from_closure _ (closure_given c h) = given_claim c h (claim_within c (λ q r i l. given_front c q r h i l))
  forced_from_closure _ (closure_same_exists p q a) = same_exists p q (forced_from_closure _ a)
  forced_from_closure _ (closure_below_exists p t a) = below_exists p t (forced_from_closure _ a)
  forced_from_closure _ (closure_prefix p q a) = prefix p q (forced_from_closure _ a)
  forced_from_closure _ (closure_refl p a) = same_refl p (forced_from_closure _ a)
  forced_from_closure _ (closure_sym p q a) = same_sym p q (forced_from_closure _ a)
  forced_from_closure _ (closure_trans p q r a b) = same_trans p q r (forced_from_closure _ a) (forced_from_closure _ b)
  forced_from_closure _ (closure_extend p q r a b) =
      same_extend p q r (forced_from_closure _ a) (forced_from_closure _ b) (extension_within p q r (forced_from_closure _ a) (forced_from_closure _ b))
  forced_from_closure _ (closure_type p q t a b) = same_type p q t (forced_from_closure _ a) (forced_from_closure _ b)
  forced_from_closure _ (closure_introduced p f a) = introduced p f (forced_from_closure _ a)
  forced_from_closure _ (closure_met p t u m a b e) = met p t u m (forced_from_closure _ a) (forced_from_closure _ b) e
  forced_from_closure _ (closure_raised p t u a e) = raised p t u (forced_from_closure _ a) e
  forced_from_closure _ (closure_topped p a) = topped p (forced_from_closure _ a)
  forced_from_closure _ (closure_constrained p t c a i) =
      constrained p t c (forced_from_closure _ a) i (claim_within (at p c) (λ q r h l. constrained_front p t c q r (forced_from_closure _ a) i h l))
