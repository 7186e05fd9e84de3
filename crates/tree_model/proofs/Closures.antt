-- Closures of sets of claims, and the structures of closures.
use Rattle.std.specs.Prelude.{ℕ, List, [], ◌∷◌, ◌++◌, map}
use Rattle.std.proofs.Common.{sym, subst, append_assoc}
use Rattle.fs_model.specs.Claims.{Path, Claim, exists_at, same, below, at, System, Has, here, there}
use Rattle.fs_model.specs.Closure.{Closure, given_claim, same_exists, below_exists, prefix, same_refl, same_sym, same_trans, same_extend, same_type, introduced, met, raised, topped, constrained, AreConsistent}
use Rattle.tree_model.specs.Structures.{pairs_of, pairs_from, Along, along_none, along_more, Beside, beside_here, beside_there}
use Rattle.tree_model.specs.Cuts.{Cut, Kept, kept_exists, kept_same, kept_below, Trimmed}

module _ (s : System) {G H : Claim → Type 0} where
  -- what follows from claims that follow from others follows from these
  pub grows : ((c : Claim) → G c → Closure s H c) → {c : Claim} → Closure s G c → Closure s H c
  grows k (given_claim c m) = k c m
  grows k (same_exists p q a) = same_exists p q (grows k a)
  grows k (below_exists p t a) = below_exists p t (grows k a)
  grows k (prefix p q a) = prefix p q (grows k a)
  grows k (same_refl p a) = same_refl p (grows k a)
  grows k (same_sym p q a) = same_sym p q (grows k a)
  grows k (same_trans p q r a b) = same_trans p q r (grows k a) (grows k b)
  grows k (same_extend p q r a b) = same_extend p q r (grows k a) (grows k b)
  grows k (same_type p q t a b) = same_type p q t (grows k a) (grows k b)
  grows k (introduced p f a) = introduced p f (grows k a)
  grows k (met p t u m a b e) = met p t u m (grows k a) (grows k b) e
  grows k (raised p t u a e) = raised p t u (grows k a) e
  grows k (topped p a) = topped p (grows k a)
  grows k (constrained p t c a i) = constrained p t c (grows k a) i

  -- at a place, in a context: the claims moved there follow
  module _ (r : Path) (k : (c : Claim) → G c → Closure s H (at r c)) where
    at_exists : (p q : Path) → Closure s H (exists_at (r ++ (p ++ q))) → Closure s H (exists_at ((r ++ p) ++ q))
    at_exists p q a = subst (λ x. Closure s H (exists_at x)) (sym (append_assoc r p q)) a

    at_twice : (p : Path) (c : Claim) → Closure s H (at (r ++ p) c) → Closure s H (at r (at p c))
    at_twice p (exists_at q) a = subst (λ x. Closure s H (exists_at x)) (append_assoc r p q) a
    at_twice p (same q v) a = subst (λ x. Closure s H (same x (r ++ (p ++ v)))) (append_assoc r p q) (subst (λ x. Closure s H (same ((r ++ p) ++ q) x)) (append_assoc r p v) a)
    at_twice p (below q t) a = subst (λ x. Closure s H (below x t)) (append_assoc r p q) a

    pub moved : {c : Claim} → Closure s G c → Closure s H (at r c)
    moved (given_claim c m) = k c m
    moved (same_exists p q a) = same_exists (r ++ p) (r ++ q) (moved a)
    moved (below_exists p t a) = below_exists (r ++ p) t (moved a)
    moved (prefix p q a) = prefix (r ++ p) q (at_exists p q (moved a))
    moved (same_refl p a) = same_refl (r ++ p) (moved a)
    moved (same_sym p q a) = same_sym (r ++ p) (r ++ q) (moved a)
    moved (same_trans p q v a b) = same_trans (r ++ p) (r ++ q) (r ++ v) (moved a) (moved b)
    moved (same_extend p q v a b) = at_twice_same p q v (same_extend (r ++ p) (r ++ q) v (moved a) (at_exists p v (moved b)))
      where
        at_twice_same : (p q v : Path) → Closure s H (same ((r ++ p) ++ v) ((r ++ q) ++ v)) → Closure s H (same (r ++ (p ++ v)) (r ++ (q ++ v)))
        at_twice_same p q v a = subst (λ x. Closure s H (same x (r ++ (q ++ v)))) (append_assoc r p v) (subst (λ x. Closure s H (same ((r ++ p) ++ v) x)) (append_assoc r q v) a)
    moved (same_type p q t a b) = same_type (r ++ p) (r ++ q) t (moved a) (moved b)
    moved (introduced p f a) = introduced (r ++ p) f (at_exists p (f ∷ []) (moved a))
    moved (met p t u m a b e) = met (r ++ p) t u m (moved a) (moved b) e
    moved (raised p t u a e) = raised (r ++ p) t u (moved a) e
    moved (topped p a) = topped (r ++ p) (moved a)
    moved (constrained p t c a i) = at_twice p c (constrained (r ++ p) t c (moved a) i)

-- what is in a consistent set is consistent
pub falls : (s : System) {G H : Claim → Type 0} → ((c : Claim) → G c → H c) → AreConsistent s H → AreConsistent s G
falls s k ok = record {
  typed = λ p t u a b. ok.typed p t u (k _ a) (k _ b);
  bounded = λ p a. ok.bounded p (k _ a);
}

-- what is kept of claims are some of the claims
pub kept_claim : {cut : Cut} {G : Claim → Type 0} {c : Claim} → Kept cut G c → G c
kept_claim (kept_exists p k a) = a
kept_claim (kept_same p q k l a) = a
kept_claim (kept_below p t k a) = a

pub keeps_more : {cut : Cut} {G H : Claim → Type 0} → ((c : Claim) → G c → H c) → {c : Claim} → Kept cut G c → Kept cut H c
keeps_more k (kept_exists p e a) = kept_exists p e (k _ a)
keeps_more k (kept_same p q e f a) = kept_same p q e f (k _ a)
keeps_more k (kept_below p t e a) = kept_below p t e (k _ a)

-- keeping twice is keeping
pub keeps_twice : {cut : Cut} {G : Claim → Type 0} {c : Claim} → Kept cut G c → Kept cut (Kept cut G) c
keeps_twice (kept_exists p e a) = kept_exists p e (kept_exists p e a)
keeps_twice (kept_same p q e f a) = kept_same p q e f (kept_same p q e f a)
keeps_twice (kept_below p t e a) = kept_below p t e (kept_below p t e a)

-- the closure of a part of a closure lies in it
pub trimmed_inside : (s : System) {cut : Cut} {G : Claim → Type 0} {c : Claim} → Trimmed s cut (Closure s G) c → Closure s G c
trimmed_inside s a = grows s (λ c k. kept_claim k) a

pub trimmed_grows : (s : System) {cut : Cut} {G H : Claim → Type 0} → ((c : Claim) → G c → H c) → {c : Claim} → Trimmed s cut G c → Trimmed s cut H c
trimmed_grows s k a = grows s (λ c b. given_claim c (keeps_more k b)) a

-- closing the part of a closure again changes nothing of what is kept
pub part_stays : (s : System) {cut : Cut} {G : Claim → Type 0} {c : Claim} → Kept cut (Trimmed s cut (Closure s G)) c → Kept cut (Closure s G) c
part_stays s k = keeps_more (λ c a. trimmed_inside s a) k

pub part_stands : (s : System) {cut : Cut} {G : Claim → Type 0} {c : Claim} → Kept cut (Closure s G) c → Kept cut (Trimmed s cut (Closure s G)) c
part_stands s k = keeps_more (λ c a. given_claim c a) (keeps_twice k)

-- the claims have with each claim the paths that it speaks of
pub record HasEnds (claims : Claim → Type 0) : Type 0 where
  pub left : (p q : Path) → claims (same p q) → claims (exists_at p)
  pub right : (p q : Path) → claims (same p q) → claims (exists_at q)
  pub under : (p : Path) (t : ℕ) → claims (below p t) → claims (exists_at p)

pub closure_ends : (s : System) {G : Claim → Type 0} → HasEnds (Closure s G)
closure_ends s = record { left = same_exists; right = λ p q a. same_exists q p (same_sym p q a); under = below_exists }

pub kept_ends : {cut : Cut} {G : Claim → Type 0} → HasEnds G → HasEnds (Kept cut G)
kept_ends {cut} {G} h = record { left = left_of; right = right_of; under = under_of }
  where
    left_of : (p q : Path) → Kept cut G (same p q) → Kept cut G (exists_at p)
    left_of p q (kept_same _ _ e f a) = kept_exists p e (h.left p q a)

    right_of : (p q : Path) → Kept cut G (same p q) → Kept cut G (exists_at q)
    right_of p q (kept_same _ _ e f a) = kept_exists q f (h.right p q a)

    under_of : (p : Path) (t : ℕ) → Kept cut G (below p t) → Kept cut G (exists_at p)
    under_of p t (kept_below _ _ e a) = kept_exists p e (h.under p t a)

module _ {A B : Type 0} where
  -- what stands beside each other is related
  pub along_at : {R : A → B → Type 0} {a : A} {b : B} {xs : List A} {ys : List B} → Along R xs ys → Beside a b xs ys → R a b
  along_at along_none h = elim h [ ]
  along_at (along_more r rs) beside_here = r
  along_at (along_more r rs) (beside_there h) = along_at rs h

  -- what the first list has stands beside something
  pub beside_of : {R : A → B → Type 0} {a : A} {xs : List A} {ys : List B} → Has a xs → Along R xs ys → (b : B) × Beside a b xs ys
  beside_of here (along_more {y = y} r rs) = (y, beside_here)
  beside_of (there h) (along_more r rs) = let z = beside_of h rs in (z.0, beside_there z.1)

pub has_append_left : {X : Type 0} {x : X} {xs : List X} (ys : List X) → Has x xs → Has x (xs ++ ys)
has_append_left ys here = here
has_append_left ys (there h) = there (has_append_left ys h)

pub has_append_right : {X : Type 0} {x : X} (xs : List X) {ys : List X} → Has x ys → Has x (xs ++ ys)
has_append_right [] h = h
has_append_right (y ∷ xs) h = there (has_append_right xs h)

pub has_map : {X Y : Type 0} {x : X} {xs : List X} (f : X → Y) → Has x xs → Has (f x) (map f xs)
has_map f here = here
has_map f (there h) = there (has_map f h)

has_from : {p q : Path} {ps : List Path} (qs : List Path) → Has p ps → Has q qs → Has (p, q) (pairs_from ps qs)
has_from {p = p} qs (here {ys = ps}) k = has_append_left (pairs_from ps qs) (has_map (λ b. (p, b)) k)
has_from qs (there {y = a} h) k = has_append_right (map (λ b. (a, b)) qs) (has_from qs h k)

pub has_pair : {p q : Path} {ps : List Path} → Has p ps → Has q ps → Has (p, q) (pairs_of ps)
has_pair {ps = ps} h k = has_from ps h k
