-- What follows is in the closure, and a closure moves with its claims.
use Rattle.std.proofs.Common.{ℕ, ◌≡◌, List, [], ◌∷◌, ◌++◌, append_assoc, sym, ◌∙◌, ap, subst}
use Rattle.fs_model.specs.Claims.{Path, Claim, exists_at, same, below, at, System}
use Rattle.fs_model.specs.Closure.{Closure, given_claim, same_exists, below_exists, prefix, same_refl, same_sym, same_trans, same_extend, same_type, introduced, met, raised, topped, constrained}
use Rattle.fs_model.specs.Table.{Table, NodeClaim, Follows, stated, there_left, there_under, there_before, same_itself, same_back, same_on, same_further, under_same, under_both, under_higher, under_top, IsSound, read}

-- what follows in a table is in the closure that it is sound for
pub follows_read : (s : System) (g : Claim → Type 0) (t : Table) (work : List NodeClaim) (w : ℕ → Path) → IsSound s g t work w →
    (c : NodeClaim) → Follows s t work c → Closure s g (read w c)
follows_read s g t k w ok _ (stated c a) = ok.stated_in c a
follows_read s g t k w ok _ (there_left n m p q a) = same_exists (w n ++ p) (w m ++ q) (follows_read s g t k w ok _ a)
follows_read s g t k w ok _ (there_under n u p a) = below_exists (w n ++ p) u (follows_read s g t k w ok _ a)
follows_read s g t k w ok _ (there_before n p q a) =
    prefix (w n ++ p) q (subst (λ x. Closure s g (exists_at x)) (sym (append_assoc (w n) p q)) (follows_read s g t k w ok _ a))
follows_read s g t k w ok _ (same_itself n p a) = same_refl (w n ++ p) (follows_read s g t k w ok _ a)
follows_read s g t k w ok _ (same_back n m p q a) = same_sym (w n ++ p) (w m ++ q) (follows_read s g t k w ok _ a)
follows_read s g t k w ok _ (same_on n m l p q r a b) =
    same_trans (w n ++ p) (w m ++ q) (w l ++ r) (follows_read s g t k w ok _ a) (follows_read s g t k w ok _ b)
follows_read s g t k w ok _ (same_further n m p q r a b) =
    subst (λ x. Closure s g (same x (w m ++ (q ++ r)))) (append_assoc (w n) p r)
    (subst (λ x. Closure s g (same ((w n ++ p) ++ r) x)) (append_assoc (w m) q r)
    (same_extend (w n ++ p) (w m ++ q) r (follows_read s g t k w ok _ a)
    (subst (λ x. Closure s g (exists_at x)) (sym (append_assoc (w n) p r)) (follows_read s g t k w ok _ b))))
follows_read s g t k w ok _ (under_same n m u p q a b) =
    same_type (w n ++ p) (w m ++ q) u (follows_read s g t k w ok _ a) (follows_read s g t k w ok _ b)
follows_read s g t k w ok _ (under_both n u v m p a b e) =
    met (w n ++ p) u v m (follows_read s g t k w ok _ a) (follows_read s g t k w ok _ b) e
follows_read s g t k w ok _ (under_higher n u v p a e) = raised (w n ++ p) u v (follows_read s g t k w ok _ a) e
follows_read s g t k w ok _ (under_top n p a) = topped (w n ++ p) (follows_read s g t k w ok _ a)

-- a claim moved twice
pub at_at : (p q : Path) (c : Claim) → at (p ++ q) c ≡ at p (at q c)
at_at p q (exists_at r) = ap exists_at (append_assoc p q r)
at_at p q (same r t) = ap (λ x. same x ((p ++ q) ++ t)) (append_assoc p q r) ∙ ap (same (p ++ (q ++ r))) (append_assoc p q t)
at_at p q (below r u) = ap (λ x. below x u) (append_assoc p q r)

-- what follows from claims follows at a path where they do
pub closure_moves : (s : System) (g h : Claim → Type 0) (p : Path) → ((c : Claim) → g c → Closure s h (at p c)) →
    (c : Claim) → Closure s g c → Closure s h (at p c)
closure_moves s g h p k _ (given_claim c m) = k c m
closure_moves s g h p k _ (same_exists q r a) = same_exists (p ++ q) (p ++ r) (closure_moves s g h p k _ a)
closure_moves s g h p k _ (below_exists q t a) = below_exists (p ++ q) t (closure_moves s g h p k _ a)
closure_moves s g h p k _ (prefix q r a) =
    prefix (p ++ q) r (subst (λ x. Closure s h (exists_at x)) (sym (append_assoc p q r)) (closure_moves s g h p k _ a))
closure_moves s g h p k _ (same_refl q a) = same_refl (p ++ q) (closure_moves s g h p k _ a)
closure_moves s g h p k _ (same_sym q r a) = same_sym (p ++ q) (p ++ r) (closure_moves s g h p k _ a)
closure_moves s g h p k _ (same_trans q r t a b) =
    same_trans (p ++ q) (p ++ r) (p ++ t) (closure_moves s g h p k _ a) (closure_moves s g h p k _ b)
closure_moves s g h p k _ (same_extend q r t a b) =
    subst (λ x. Closure s h (same x (p ++ (r ++ t)))) (append_assoc p q t)
    (subst (λ x. Closure s h (same ((p ++ q) ++ t) x)) (append_assoc p r t)
    (same_extend (p ++ q) (p ++ r) t (closure_moves s g h p k _ a)
    (subst (λ x. Closure s h (exists_at x)) (sym (append_assoc p q t)) (closure_moves s g h p k _ b))))
closure_moves s g h p k _ (same_type q r t a b) = same_type (p ++ q) (p ++ r) t (closure_moves s g h p k _ a) (closure_moves s g h p k _ b)
closure_moves s g h p k _ (introduced q f a) =
    introduced (p ++ q) f (subst (λ x. Closure s h (exists_at x)) (sym (append_assoc p q (f ∷ []))) (closure_moves s g h p k _ a))
closure_moves s g h p k _ (met q t u m a b e) = met (p ++ q) t u m (closure_moves s g h p k _ a) (closure_moves s g h p k _ b) e
closure_moves s g h p k _ (raised q t u a e) = raised (p ++ q) t u (closure_moves s g h p k _ a) e
closure_moves s g h p k _ (topped q a) = topped (p ++ q) (closure_moves s g h p k _ a)
closure_moves s g h p k _ (constrained q t c a i) =
    subst (Closure s h) (at_at p q c) (constrained (p ++ q) t c (closure_moves s g h p k _ a) i)
