-- A table with no work left is the structure of the closure.
use Rattle.std.proofs.Common.{ℕ, ◌≡◌, ◌<◌, true, Option, Some, None, [], ◌∷◌, ◌++◌, refl, sym, ◌∙◌, ap, subst, append_assoc, append-nil}
use Rattle.fs_model.specs.Claims.{Path, Claim, exists_at, same, below, at, System, IsOrder}
use Rattle.fs_model.specs.Closure.{Closure, given_claim, same_exists, below_exists, prefix, same_refl, same_sym, same_trans, same_extend, same_type, introduced, met, raised, topped, constrained, IsStructure}
use Rattle.fs_model.specs.Table.{Table, IsTable, NodeClaim, from, by_node, by_arc, by_merge, by_type, by_work, Follows, stated, there_left, there_under, there_before, same_itself, same_back, same_on, same_further, under_same, under_both, under_higher, under_top, walk, Seen, IsComplete, IsSound}

-- a walk from a node is the walk from the node that it was merged into
pub walk-live : (t : Table) → IsTable t → (n : ℕ) (p : Path) → walk t (t.live n) p ≡ walk t n p
walk-live t ok n [] = ap Some (ok.live_twice n)
walk-live t ok n (f ∷ p) = ap (λ x. elim (t.arc x f) as (λ _. Option ℕ) [ None ↦ None | Some m ↦ walk t m p ]) (ok.live_twice n)

pub walk-append : (t : Table) → IsTable t → (n k : ℕ) (p q : Path) → walk t n p ≡ Some k → walk t n (p ++ q) ≡ walk t k q
walk-append t ok n k [] q e =
    let same_node : t.live n ≡ k = cc in
    sym (walk-live t ok n q) ∙ ap (λ x. walk t x q) same_node
walk-append t ok n k (f ∷ p) q e = go (t.arc (t.live n) f) refl e (λ m. walk-append t ok m k p q)
  where
    go : (o : Option ℕ) → t.arc (t.live n) f ≡ o → elim o as (λ _. Option ℕ) [ None ↦ None | Some m ↦ walk t m p ] ≡ Some k →
        ((m : ℕ) → walk t m p ≡ Some k → walk t m (p ++ q) ≡ walk t k q) →
        elim (t.arc (t.live n) f) as (λ _. Option ℕ) [ None ↦ None | Some m ↦ walk t m (p ++ q) ] ≡ walk t k q
    go None _ e' _ = absurd cc
    go (Some m) is e' rest = rw is (rest m e')

-- a prefix of a path that is there is there
pub walk-prefix : (t : Table) (n k : ℕ) (p q : Path) → walk t n (p ++ q) ≡ Some k → (j : ℕ) × (walk t n p ≡ Some j)
walk-prefix t n k [] q e = (t.live n, refl)
walk-prefix t n k (f ∷ p) q e = go (t.arc (t.live n) f) refl e (λ m. walk-prefix t m k p q)
  where
    go : (o : Option ℕ) → t.arc (t.live n) f ≡ o → elim o as (λ _. Option ℕ) [ None ↦ None | Some m ↦ walk t m (p ++ q) ] ≡ Some k →
        ((m : ℕ) → walk t m (p ++ q) ≡ Some k → (j : ℕ) × (walk t m p ≡ Some j)) →
        (j : ℕ) × (elim (t.arc (t.live n) f) as (λ _. Option ℕ) [ None ↦ None | Some m ↦ walk t m p ] ≡ Some j)
    go None _ e' _ = absurd cc
    go (Some m) is e' rest = let r = rest m e' in (r.0, rw is r.1)

-- one arc of a walk
pub walk-step : (t : Table) (n m f : ℕ) (p : Path) → t.arc (t.live n) f ≡ Some m → walk t n (f ∷ p) ≡ walk t m p
walk-step t n m f p e = ap (λ o. elim o as (λ _. Option ℕ) [ None ↦ None | Some k ↦ walk t k p ]) e

-- a walk ends at a live node of the table
pub walk_ends : (t : Table) → IsTable t → (n k : ℕ) (p : Path) → n < t.size → walk t n p ≡ Some k → (k < t.size) × (t.live k ≡ k)
walk_ends t ok n k [] h e =
    let same_node : t.live n ≡ k = cc in
    (subst (λ x. x < t.size) same_node (ok.live_in n h), subst (λ x. t.live x ≡ x) same_node (ok.live_twice n))
walk_ends t ok n k (f ∷ p) h e = go (t.arc (t.live n) f) refl e (λ m. walk_ends t ok m k p)
  where
    go : (o : Option ℕ) → t.arc (t.live n) f ≡ o → elim o as (λ _. Option ℕ) [ None ↦ None | Some m ↦ walk t m p ] ≡ Some k →
        ((m : ℕ) → m < t.size → walk t m p ≡ Some k → (k < t.size) × (t.live k ≡ k)) → (k < t.size) × (t.live k ≡ k)
    go None _ e' _ = absurd cc
    go (Some m) is e' rest = rest m (ok.arc_in (t.live n) f m (ok.live_in n h) is) e'

one_end : (t : Table) (n : ℕ) (p : Path) (j k : ℕ) → walk t n p ≡ Some j → walk t n p ≡ Some k → j ≡ k
one_end t n p j k a b = cc

-- what follows from a table with no work left is seen in it
pub Follows-seen : (s : System) → IsOrder s → (t : Table) → IsTable t → (c : NodeClaim) → Follows s t [] c → Seen s t c
Follows-seen s o t ok _ (stated _ (by_node n h)) = (t.live n, refl)
Follows-seen s o t ok _ (stated _ (by_arc n f m h l e)) = (t.live m, walk-step t n m f [] (ap (λ x. t.arc x f) l ∙ e), refl)
Follows-seen s o t ok _ (stated _ (by_merge n h)) = (t.live n, refl, ap Some (ok.live_twice n))
Follows-seen s o t ok _ (stated _ (by_type n h l)) = (n, ap Some l, o.reflexive (t.type_of n))
Follows-seen s o t ok _ (stated _ (by_work c h)) = elim h [ ]
Follows-seen s o t ok _ (there_left n m p q a) = let r = Follows-seen s o t ok _ a in (r.0, r.1)
Follows-seen s o t ok _ (there_under n u p a) = let r = Follows-seen s o t ok _ a in (r.0, r.1)
Follows-seen s o t ok _ (there_before n p q a) = let r = Follows-seen s o t ok _ a in walk-prefix t n r.0 p q r.1
Follows-seen s o t ok _ (same_itself n p a) = let r = Follows-seen s o t ok _ a in (r.0, r.1, r.1)
Follows-seen s o t ok _ (same_back n m p q a) = let r = Follows-seen s o t ok _ a in (r.0, r.2, r.1)
Follows-seen s o t ok _ (same_on n m k p q r a b) =
    let x = Follows-seen s o t ok _ a in
    let y = Follows-seen s o t ok _ b in
    let e : y.0 ≡ x.0 = one_end t m q y.0 x.0 y.1 x.2 in
    (x.0, x.1, y.2 ∙ ap Some e)
Follows-seen s o t ok _ (same_further n m p q r a b) =
    let x = Follows-seen s o t ok _ a in
    let y = Follows-seen s o t ok _ b in
    let e : walk t x.0 r ≡ Some y.0 = sym (walk-append t ok n x.0 p r x.1) ∙ y.1 in
    (y.0, y.1, walk-append t ok m x.0 q r x.2 ∙ e)
Follows-seen s o t ok _ (under_same n m u p q a b) =
    let x = Follows-seen s o t ok _ a in
    let y = Follows-seen s o t ok _ b in
    let e : y.0 ≡ x.0 = one_end t n p y.0 x.0 y.1 x.1 in
    (x.0, x.2, subst (λ k. s.is_below (t.type_of k) u ≡ true) e y.2)
Follows-seen s o t ok _ (under_both n u v m p a b e) =
    let x = Follows-seen s o t ok _ a in
    let y = Follows-seen s o t ok _ b in
    let same_node : y.0 ≡ x.0 = one_end t n p y.0 x.0 y.1 x.1 in
    (x.0, x.1, o.meet_greatest u v m (t.type_of x.0) e x.2 (subst (λ k. s.is_below (t.type_of k) v ≡ true) same_node y.2))
Follows-seen s o t ok _ (under_higher n u v p a e) =
    let r = Follows-seen s o t ok _ a in (r.0, r.1, o.transitive _ _ _ r.2 e)
Follows-seen s o t ok _ (under_top n p a) = let r = Follows-seen s o t ok _ a in (r.0, r.1, o.below_top _)

-- a claim seen at the node at the end of a path is seen at the path
pub Seen-at : (s : System) (t : Table) → IsTable t → (n k : ℕ) (p : Path) (c : Claim) → walk t n p ≡ Some k →
    Seen s t (from k c) → Seen s t (from n (at p c))
Seen-at s t ok n k p (exists_at q) e x = (x.0, walk-append t ok n k p q e ∙ x.1)
Seen-at s t ok n k p (same q r) e x = (x.0, walk-append t ok n k p q e ∙ x.1, walk-append t ok n k p r e ∙ x.2)
Seen-at s t ok n k p (below q u) e x = (x.0, walk-append t ok n k p q e ∙ x.1, x.2)

-- the last arc of a walk
last_arc : (t : Table) (j k f : ℕ) → t.live j ≡ j → walk t j (f ∷ []) ≡ Some k → (m : ℕ) × (t.arc j f ≡ Some m)
last_arc t j k f l e = go (t.arc j f) refl
  where
    go : (o : Option ℕ) → t.arc j f ≡ o → (m : ℕ) × (t.arc j f ≡ Some m)
    go None is =
        let stops : None ≡ walk t j (f ∷ []) =
        ap (λ o. elim o as (λ _. Option ℕ) [ None ↦ None | Some i ↦ walk t i [] ]) (sym (ap (λ x. t.arc x f) l ∙ is)) in
        absurd cc
    go (Some m) is = (m, is)

-- what is in the closure is seen in a complete table with no work left
pub Closure-seen : (s : System) → IsOrder s → (given : Claim → Type 0) (t : Table) → IsTable t → 0 < t.size →
    IsComplete s given t [] → (c : Claim) → Closure s given c → Seen s t (from 0 c)
Closure-seen s o g t ok z all _ (given_claim c h) = Follows-seen s o t ok _ (all.starts c h)
Closure-seen s o g t ok z all _ (same_exists p q a) = let x = Closure-seen s o g t ok z all _ a in (x.0, x.1)
Closure-seen s o g t ok z all _ (below_exists p u a) = let x = Closure-seen s o g t ok z all _ a in (x.0, x.1)
Closure-seen s o g t ok z all _ (prefix p q a) = let x = Closure-seen s o g t ok z all _ a in walk-prefix t 0 x.0 p q x.1
Closure-seen s o g t ok z all _ (same_refl p a) = let x = Closure-seen s o g t ok z all _ a in (x.0, x.1, x.1)
Closure-seen s o g t ok z all _ (same_sym p q a) = let x = Closure-seen s o g t ok z all _ a in (x.0, x.2, x.1)
Closure-seen s o g t ok z all _ (same_trans p q r a b) =
    let x = Closure-seen s o g t ok z all _ a in
    let y = Closure-seen s o g t ok z all _ b in
    let e : y.0 ≡ x.0 = one_end t 0 q y.0 x.0 y.1 x.2 in
    (x.0, x.1, y.2 ∙ ap Some e)
Closure-seen s o g t ok z all _ (same_extend p q r a b) =
    let x = Closure-seen s o g t ok z all _ a in
    let y = Closure-seen s o g t ok z all _ b in
    let e : walk t x.0 r ≡ Some y.0 = sym (walk-append t ok 0 x.0 p r x.1) ∙ y.1 in
    (y.0, y.1, walk-append t ok 0 x.0 q r x.2 ∙ e)
Closure-seen s o g t ok z all _ (same_type p q u a b) =
    let x = Closure-seen s o g t ok z all _ a in
    let y = Closure-seen s o g t ok z all _ b in
    let e : y.0 ≡ x.0 = one_end t 0 p y.0 x.0 y.1 x.1 in
    (x.0, x.2, subst (λ k. s.is_below (t.type_of k) u ≡ true) e y.2)
Closure-seen s o g t ok z all _ (introduced p f a) =
    let x = Closure-seen s o g t ok z all _ a in
    let y = walk-prefix t 0 x.0 p (f ∷ []) x.1 in
    let ends = walk_ends t ok 0 y.0 p z y.1 in
    let e : walk t y.0 (f ∷ []) ≡ Some x.0 = sym (walk-append t ok 0 y.0 p (f ∷ []) y.1) ∙ x.1 in
    let m = last_arc t y.0 x.0 f ends.1 e in
    let seen = Follows-seen s o t ok _ (all.introduces y.0 f m.0 ends.0 ends.1 m.1) in
    let here' : seen.0 ≡ y.0 = let q : Some (t.live y.0) ≡ Some seen.0 = seen.1 in let l : t.live y.0 ≡ y.0 = ends.1 in cc in
    (y.0, y.1, subst (λ k. s.is_below (t.type_of k) (s.introducer f) ≡ true) here' seen.2)
Closure-seen s o g t ok z all _ (met p u v m a b e) =
    let x = Closure-seen s o g t ok z all _ a in
    let y = Closure-seen s o g t ok z all _ b in
    let same_node : y.0 ≡ x.0 = one_end t 0 p y.0 x.0 y.1 x.1 in
    (x.0, x.1, o.meet_greatest u v m (t.type_of x.0) e x.2 (subst (λ k. s.is_below (t.type_of k) v ≡ true) same_node y.2))
Closure-seen s o g t ok z all _ (raised p u v a e) =
    let x = Closure-seen s o g t ok z all _ a in (x.0, x.1, o.transitive _ _ _ x.2 e)
Closure-seen s o g t ok z all _ (topped p a) = let x = Closure-seen s o g t ok z all _ a in (x.0, x.1, o.below_top _)
Closure-seen s o g t ok z all _ (constrained p u c a h) =
    let x = Closure-seen s o g t ok z all _ a in
    let ends = walk_ends t ok 0 x.0 p z x.1 in
    Seen-at s t ok 0 x.0 p c x.1 (Follows-seen s o t ok _ (all.constrains x.0 u c ends.0 ends.1 x.2 h))

-- a step of the next lemma: a merge, an arc, and the rest of the path
pub one_arc : (s : System) (g : Claim → Type 0) (a b c d : Path) (f : ℕ) (p : Path) → Closure s g (same (a ++ []) (b ++ [])) →
    Closure s g (same (b ++ f ∷ []) (c ++ [])) → Closure s g (same (c ++ p) d) → Closure s g (same ((a ++ f ∷ []) ++ p) d)
one_arc s g a b c d f p merged arc rest =
    let merged' : Closure s g (same a b) =
    subst (λ x. Closure s g (same a x)) (append-nil b) (subst (λ x. Closure s g (same x (b ++ []))) (append-nil a) merged) in
    let arc' : Closure s g (same (b ++ f ∷ []) c) = subst (λ x. Closure s g (same (b ++ f ∷ []) x)) (append-nil c) arc in
    let up : Closure s g (same (b ++ f ∷ []) (a ++ f ∷ [])) =
    same_extend b a (f ∷ []) (same_sym a b merged') (same_exists _ _ arc') in
    let whole : Closure s g (same c (a ++ f ∷ [])) = same_trans _ _ _ (same_sym _ _ arc') up in
    let further : Closure s g (same (c ++ p) ((a ++ f ∷ []) ++ p)) = same_extend _ _ p whole (same_exists _ _ rest) in
    same_trans _ _ _ (same_sym _ _ further) rest

-- a walk ends at the node whose path is equal
pub walk_same : (s : System) (g : Claim → Type 0) (t : Table) → IsTable t → (w : ℕ → Path) → IsSound s g t [] w →
    (n k : ℕ) (p : Path) → n < t.size → walk t n p ≡ Some k → Closure s g (same (w n ++ p) (w k))
walk_same s g t ok w sound n k [] h e =
    let same_node : t.live n ≡ k = cc in
    let merged : Closure s g (same (w n ++ []) (w (t.live n) ++ [])) = sound.stated_in _ (by_merge n h) in
    subst (λ x. Closure s g (same (w n ++ []) (w x))) same_node
    (subst (λ x. Closure s g (same (w n ++ []) x)) (append-nil (w (t.live n))) merged)
walk_same s g t ok w sound n k (f ∷ p) h e =
    go (t.arc (t.live n) f) refl (λ m i. walk_same s g t ok w sound m k p i)
  where
    go : (o : Option ℕ) → t.arc (t.live n) f ≡ o →
        ((m : ℕ) → m < t.size → walk t m p ≡ Some k → Closure s g (same (w m ++ p) (w k))) → Closure s g (same (w n ++ f ∷ p) (w k))
    go None is _ =
        let stops : None ≡ walk t n (f ∷ p) =
        ap (λ o. elim o as (λ _. Option ℕ) [ None ↦ None | Some i ↦ walk t i p ]) (sym is) in
        absurd cc
    go (Some m) is rest =
        let in_table : m < t.size = ok.arc_in (t.live n) f m (ok.live_in n h) is in
        let rest' = rest m in_table (sym (walk-step t n m f p is) ∙ e) in
        subst (λ x. Closure s g (same x (w k))) (append_assoc (w n) (f ∷ []) p)
        (one_arc s g (w n) (w (t.live n)) (w m) (w k) f p (sound.stated_in _ (by_merge n h))
        (sound.stated_in _ (by_arc (t.live n) f m (ok.live_in n h) (ok.live_twice n) is)) rest')

pub from_root : (s : System) (g : Claim → Type 0) (t : Table) → IsTable t → 0 < t.size → (w : ℕ → Path) → IsSound s g t [] w →
    (k : ℕ) (p : Path) → walk t 0 p ≡ Some k → Closure s g (same p (w k))
from_root s g t ok z w sound k p e =
    subst (λ x. Closure s g (same (x ++ p) (w k))) sound.root (walk_same s g t ok w sound 0 k p z e)

pub type_there : (s : System) (g : Claim → Type 0) (t : Table) → IsTable t → 0 < t.size → (w : ℕ → Path) → IsSound s g t [] w →
    (k : ℕ) (p : Path) → walk t 0 p ≡ Some k → Closure s g (below p (t.type_of k))
type_there s g t ok z w sound k p e =
    let ends = walk_ends t ok 0 k p z e in
    same_type (w k) p (t.type_of k) (same_sym _ _ (from_root s g t ok z w sound k p e))
    (subst (λ x. Closure s g (below x (t.type_of k))) (append-nil (w k)) (sound.stated_in _ (by_type k ends.0 ends.1)))

pub Seen-closure : (s : System) → IsOrder s → (g : Claim → Type 0) (t : Table) → IsTable t → 0 < t.size → (w : ℕ → Path) →
    IsSound s g t [] w → (c : Claim) → Seen s t (from 0 c) → Closure s g c
Seen-closure s o g t ok z w sound (exists_at p) x = same_exists _ _ (from_root s g t ok z w sound x.0 p x.1)
Seen-closure s o g t ok z w sound (same p q) x =
    same_trans _ _ _ (from_root s g t ok z w sound x.0 p x.1) (same_sym _ _ (from_root s g t ok z w sound x.0 q x.2))
Seen-closure s o g t ok z w sound (below p u) x =
    raised p (t.type_of x.0) u (type_there s g t ok z w sound x.0 p x.1) x.2

-- the table is the structure
pub Table-structure : (s : System) → IsOrder s → (g : Claim → Type 0) (t : Table) → IsTable t → 0 < t.size → (w : ℕ → Path) →
    IsSound s g t [] w → IsComplete s g t [] → IsStructure s g (walk t 0) t.type_of
Table-structure s o g t ok z w sound all = record {
  paths = λ p. (Closure-seen s o g t ok z all (exists_at p), Seen-closure s o g t ok z w sound (exists_at p));
  equalities = λ p q. (Closure-seen s o g t ok z all (same p q), Seen-closure s o g t ok z w sound (same p q));
  types_there = λ p n e. type_there s g t ok z w sound n p e;
  types_above = λ p n u e a.
      let x = Closure-seen s o g t ok z all (below p u) a in
      subst (λ k. s.is_below (t.type_of k) u ≡ true) (one_end t 0 p x.0 n x.1 e) x.2;
}

-- any two types at a path have a meet
pub Table-typed : (s : System) → IsOrder s → (g : Claim → Type 0) (t : Table) → IsTable t → 0 < t.size →
    IsComplete s g t [] → (p : Path) (u v : ℕ) → Closure s g (below p u) → Closure s g (below p v) → (m : ℕ) × (s.meet u v ≡ Some m)
Table-typed s o g t ok z all p u v a b =
    let x = Closure-seen s o g t ok z all (below p u) a in
    let y = Closure-seen s o g t ok z all (below p v) b in
    o.meet_exists u v (t.type_of x.0) x.2
    (subst (λ k. s.is_below (t.type_of k) v ≡ true) (one_end t 0 p y.0 x.0 y.1 x.1) y.2)
