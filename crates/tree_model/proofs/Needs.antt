-- A closure without its restrictors needs no closing where no fact of its types speaks of a restrictor.
use Rattle.std.specs.Prelude.{ℕ, ◌≡◌, Bool, true, not, List, [], ◌∷◌, ◌++◌}
use Rattle.std.specs.List.{list_all}
use Rattle.std.proofs.Common.{refl, sym, subst}
use Rattle.fs_model.specs.Claims.{Path, Claim, exists_at, same, below, at, System, Has}
use Rattle.fs_model.specs.Closure.{Closure, given_claim, same_exists, below_exists, prefix, same_refl, same_sym, same_trans, same_extend, same_type, introduced, met, raised, topped, constrained}
use Rattle.tree_model.specs.Cuts.{Cut, Kept, kept_exists, kept_same, kept_below, is_kept, has_feature, Trimmed}
use Rattle.tree_model.specs.Mothers.{Mother}
use Rattle.tree_model.specs.Laws.{IsClear, NothingIsOwed}
use Rattle.tree_model.proofs.Overs.{both, joined}

module _ (rs : List ℕ) where
  abbrev cut : Cut
  cut = record { at_root = []; anywhere = rs }

  clear : ℕ → Bool
  clear f = not (has_feature rs f)

  all_left : (p q : Path) → list_all (λ f. not (has_feature rs f)) (p ++ q) ≡ true → list_all (λ f. not (has_feature rs f)) p ≡ true
  all_left [] q h = refl
  all_left (f ∷ p) q h = joined (both h).0 (all_left p q (both h).1)

  all_right : (p q : Path) → list_all (λ f. not (has_feature rs f)) (p ++ q) ≡ true → list_all (λ f. not (has_feature rs f)) q ≡ true
  all_right [] q h = h
  all_right (f ∷ p) q h = all_right p q (both h).1

  all_both : (p q : Path) → list_all (λ f. not (has_feature rs f)) p ≡ true → list_all (λ f. not (has_feature rs f)) q ≡ true → list_all (λ f. not (has_feature rs f)) (p ++ q) ≡ true
  all_both [] q h k = k
  all_both (f ∷ p) q h k = joined (both h).0 (all_both p q (both h).1 k)

  to_all : (p : Path) → is_kept cut p ≡ true → list_all (λ f. not (has_feature rs f)) p ≡ true
  to_all [] h = refl
  to_all (f ∷ p) h = h

  of_all : (p : Path) → list_all (λ f. not (has_feature rs f)) p ≡ true → is_kept cut p ≡ true
  of_all [] h = refl
  of_all (f ∷ p) h = h

  left : (p q : Path) → is_kept cut (p ++ q) ≡ true → is_kept cut p ≡ true
  left p q h = of_all p (all_left p q (to_all (p ++ q) h))

  right : (p q : Path) → is_kept cut (p ++ q) ≡ true → is_kept cut q ≡ true
  right p q h = of_all q (all_right p q (to_all (p ++ q) h))

  on : (p q : Path) → is_kept cut p ≡ true → is_kept cut q ≡ true → is_kept cut (p ++ q) ≡ true
  on p q h k = of_all (p ++ q) (all_both p q (to_all p h) (to_all q k))

  module _ (s : System) (G : Claim → Type 0) where
    at_kept : (p : Path) (c : Claim) → is_kept cut p ≡ true → IsClear rs c → Closure s G (at p c) → Kept cut (Closure s G) (at p c)
    at_kept p (exists_at q) h k a = kept_exists (p ++ q) (on p q h k) a
    at_kept p (same q r) h k a = kept_same (p ++ q) (p ++ r) (on p q h k.0) (on p r h k.1) a
    at_kept p (below q t) h k a = kept_below (p ++ q) t (on p q h k) a

    pub owed_none : ((p : Path) (t : ℕ) (c : Claim) → is_kept cut p ≡ true → Closure s G (below p t) → Has c (s.facts_of t) → IsClear rs c) →
        {c : Claim} → Closure s (Kept cut (Closure s G)) c → Kept cut (Closure s G) c
    owed_none none (given_claim c k) = k
    owed_none none (same_exists p q a) = of_left (owed_none none a)
      where
        of_left : Kept cut (Closure s G) (same p q) → Kept cut (Closure s G) (exists_at p)
        of_left (kept_same _ _ e f x) = kept_exists p e (same_exists p q x)
    owed_none none (below_exists p t a) = of_under (owed_none none a)
      where
        of_under : Kept cut (Closure s G) (below p t) → Kept cut (Closure s G) (exists_at p)
        of_under (kept_below _ _ e x) = kept_exists p e (below_exists p t x)
    owed_none none (prefix p q a) = of_long (owed_none none a)
      where
        of_long : Kept cut (Closure s G) (exists_at (p ++ q)) → Kept cut (Closure s G) (exists_at p)
        of_long k = by_parts (exists_at (p ++ q)) refl k
          where
            by_parts : (c : Claim) → c ≡ exists_at (p ++ q) → Kept cut (Closure s G) c → Kept cut (Closure s G) (exists_at p)
            by_parts _ h (kept_exists v e x) = let z : v ≡ p ++ q = cc in kept_exists p (left p q (rw z at e)) (prefix p q (rw z at x))
            by_parts _ h (kept_same v u e f x) = absurd (cc)
            by_parts _ h (kept_below v t e x) = absurd (cc)
    owed_none none (same_refl p a) = of_one (owed_none none a)
      where
        of_one : Kept cut (Closure s G) (exists_at p) → Kept cut (Closure s G) (same p p)
        of_one (kept_exists _ e x) = kept_same p p e e (same_refl p x)
    owed_none none (same_sym p q a) = of_same (owed_none none a)
      where
        of_same : Kept cut (Closure s G) (same p q) → Kept cut (Closure s G) (same q p)
        of_same (kept_same _ _ e f x) = kept_same q p f e (same_sym p q x)
    owed_none none (same_trans p q r a b) = of_two (owed_none none a) (owed_none none b)
      where
        of_two : Kept cut (Closure s G) (same p q) → Kept cut (Closure s G) (same q r) → Kept cut (Closure s G) (same p r)
        of_two (kept_same _ _ e f x) (kept_same _ _ h k y) = kept_same p r e k (same_trans p q r x y)
    owed_none none (same_extend p q r a b) = of_two (owed_none none a) (exists_at (p ++ r)) refl (owed_none none b)
      where
        of_two : Kept cut (Closure s G) (same p q) → (c : Claim) → c ≡ exists_at (p ++ r) → Kept cut (Closure s G) c → Kept cut (Closure s G) (same (p ++ r) (q ++ r))
        of_two (kept_same _ _ e f x) _ h (kept_exists v k y) =
            let z : v ≡ p ++ r = cc in
            let k' : is_kept cut (p ++ r) ≡ true = rw z at k in
            kept_same (p ++ r) (q ++ r) k' (on q r f (right p r k')) (same_extend p q r x (rw z at y))
        of_two (kept_same _ _ e f x) _ h (kept_same v u k l y) = absurd (cc)
        of_two (kept_same _ _ e f x) _ h (kept_below v t k y) = absurd (cc)
    owed_none none (same_type p q t a b) = of_two (owed_none none a) (owed_none none b)
      where
        of_two : Kept cut (Closure s G) (same p q) → Kept cut (Closure s G) (below p t) → Kept cut (Closure s G) (below q t)
        of_two (kept_same _ _ e f x) (kept_below _ _ k y) = kept_below q t f (same_type p q t x y)
    owed_none none (introduced p f a) = of_arc (exists_at (p ++ f ∷ [])) refl (owed_none none a)
      where
        of_arc : (c : Claim) → c ≡ exists_at (p ++ f ∷ []) → Kept cut (Closure s G) c → Kept cut (Closure s G) (below p (s.introducer f))
        of_arc _ h (kept_exists v e x) = let z : v ≡ p ++ f ∷ [] = cc in kept_below p (s.introducer f) (left p (f ∷ []) (rw z at e)) (introduced p f (rw z at x))
        of_arc _ h (kept_same v u k l y) = absurd (cc)
        of_arc _ h (kept_below v t k y) = absurd (cc)
    owed_none none (met p t u m a b e) = of_two (owed_none none a) (owed_none none b)
      where
        of_two : Kept cut (Closure s G) (below p t) → Kept cut (Closure s G) (below p u) → Kept cut (Closure s G) (below p m)
        of_two (kept_below _ _ h x) (kept_below _ _ k y) = kept_below p m h (met p t u m x y e)
    owed_none none (raised p t u a e) = of_one (owed_none none a)
      where
        of_one : Kept cut (Closure s G) (below p t) → Kept cut (Closure s G) (below p u)
        of_one (kept_below _ _ h x) = kept_below p u h (raised p t u x e)
    owed_none none (topped p a) = of_one (owed_none none a)
      where
        of_one : Kept cut (Closure s G) (exists_at p) → Kept cut (Closure s G) (below p s.top)
        of_one (kept_exists _ e x) = kept_below p s.top e (topped p x)
    owed_none none (constrained p t c a i) = of_one (owed_none none a)
      where
        of_one : Kept cut (Closure s G) (below p t) → Kept cut (Closure s G) (at p c)
        of_one (kept_below _ _ h x) = at_kept p c h (none p t c h x i) (constrained p t c x i)

pub nothing_is_owed : NothingIsOwed
nothing_is_owed g rs e rule ms none c a =
    let go : Trimmed g.system (cut rs) (Mother g rule ms) c → Kept (cut rs) (Mother g rule ms) c = λ b. owed_none rs g.system _ none b in
    (subst (λ k. Trimmed g.system k (Mother g rule ms) c → Kept k (Mother g rule ms) c) (sym e) go) a
