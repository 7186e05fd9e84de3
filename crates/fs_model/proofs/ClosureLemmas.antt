-- Laws of the closure.
use Rattle.std.proofs.Common.{ℕ, ◌≡◌, Option, Some, None, List, [], ◌∷◌, refl}
use Rattle.fs_model.specs.Claims.{Path, Claim, below, System, Has, here, there}
use Rattle.fs_model.specs.Closure.{Closure, given_claim, same_exists, below_exists, prefix, same_refl, same_sym, same_trans, same_extend, same_type, introduced, met, raised, topped, constrained, IsConsistent}
use Rattle.fs_model.specs.Listed.{meet_all}

pub closure_grows : (s : System) (g h : Claim → Type 0) → ((c : Claim) → g c → Closure s h c) → (c : Claim) → Closure s g c → Closure s h c
closure_grows s g h k _ (given_claim c m) = k c m
closure_grows s g h k _ (same_exists p q a) = same_exists p q (closure_grows s g h k _ a)
closure_grows s g h k _ (below_exists p t a) = below_exists p t (closure_grows s g h k _ a)
closure_grows s g h k _ (prefix p q a) = prefix p q (closure_grows s g h k _ a)
closure_grows s g h k _ (same_refl p a) = same_refl p (closure_grows s g h k _ a)
closure_grows s g h k _ (same_sym p q a) = same_sym p q (closure_grows s g h k _ a)
closure_grows s g h k _ (same_trans p q r a b) = same_trans p q r (closure_grows s g h k _ a) (closure_grows s g h k _ b)
closure_grows s g h k _ (same_extend p q r a b) = same_extend p q r (closure_grows s g h k _ a) (closure_grows s g h k _ b)
closure_grows s g h k _ (same_type p q t a b) = same_type p q t (closure_grows s g h k _ a) (closure_grows s g h k _ b)
closure_grows s g h k _ (introduced p f a) = introduced p f (closure_grows s g h k _ a)
closure_grows s g h k _ (met p t u m a b e) = met p t u m (closure_grows s g h k _ a) (closure_grows s g h k _ b) e
closure_grows s g h k _ (raised p t u a e) = raised p t u (closure_grows s g h k _ a) e
closure_grows s g h k _ (topped p a) = topped p (closure_grows s g h k _ a)
closure_grows s g h k _ (constrained p t c a i) = constrained p t c (closure_grows s g h k _ a) i

pub consistency_falls : (s : System) (g h : Claim → Type 0) → ((c : Claim) → g c → Closure s h c) → IsConsistent s h → IsConsistent s g
consistency_falls s g h k ok = record {
  typed = λ p t u a b. ok.typed p t u (closure_grows s g h k _ a) (closure_grows s g h k _ b);
  bounded = λ p a. ok.bounded p (closure_grows s g h k _ a);
}

-- the types at a path, one or more, with their meet
pub below_meet_all : (s : System) (g : Claim → Type 0) (p : Path) (t : ℕ) (us : List ℕ) (m : ℕ) →
    Closure s g (below p t) → ((u : ℕ) → Has u us → Closure s g (below p u)) → meet_all s t us ≡ Some m →
    Closure s g (below p m)
below_meet_all s g p t [] m a b e =
    let same_type' : t ≡ m = cc in
    rw same_type' at a
below_meet_all s g p t (u ∷ us) m a b e =
    go (s.meet t u) refl e (λ k x y. below_meet_all s g p k us m x (λ v i. b v (there i)) y)
  where
    go : (o : Option ℕ) → s.meet t u ≡ o → elim o as (λ _. Option ℕ) [ None ↦ None | Some k ↦ meet_all s k us ] ≡ Some m →
        ((k : ℕ) → Closure s g (below p k) → meet_all s k us ≡ Some m → Closure s g (below p m)) → Closure s g (below p m)
    go None _ e' _ = absurd cc
    go (Some k) is e' rest = rest k (met p t u k a (b u here) is) e'
