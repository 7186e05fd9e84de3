-- The two forms of the closure.
use Rattle.std.proofs.Common.{ℕ, ◌≡◌, Bool, true, Option, Some, None, List, [], ◌∷◌, ◌++◌, refl, ◌∙◌, ap, subst, ◌⊎◌, inl, inr}
use Rattle.fs_model.specs.Claims.{Path, Claim, exists_at, same, below, at, System, IsOrder, IsBare, FactsAreWritten, Has, here, there}
use Rattle.fs_model.specs.Closure.{Closure, given_claim, same_exists, below_exists, prefix, same_refl, same_sym, same_trans, same_extend, same_type, introduced, met, raised, topped, constrained, IsConsistent}
use Rattle.fs_model.specs.Listed.{meet_all, IsListConsistent, IsUnderAll, FormsAgree, Inferred, given_one, exists_same, exists_below, exists_prefix, itself, back, on, extension, type, feature, inference, facts}
use Rattle.fs_model.proofs.ClosureLemmas.{below_meet_all}

-- what is inferred by lists is in the closure
pub Closure-inferred : (s : System) (w : ℕ → Bool) (g : Claim → Type 0) (c : Claim) → Inferred s w g c → Closure s g c
Closure-inferred s w g _ (given_one c h) = given_claim c h
Closure-inferred s w g _ (exists_same p q a) = same_exists p q (Closure-inferred s w g _ a)
Closure-inferred s w g _ (exists_below p t a) = below_exists p t (Closure-inferred s w g _ a)
Closure-inferred s w g _ (exists_prefix p q a) = prefix p q (Closure-inferred s w g _ a)
Closure-inferred s w g _ (itself p a) = same_refl p (Closure-inferred s w g _ a)
Closure-inferred s w g _ (back p q a) = same_sym p q (Closure-inferred s w g _ a)
Closure-inferred s w g _ (on p q r a b) = same_trans p q r (Closure-inferred s w g _ a) (Closure-inferred s w g _ b)
Closure-inferred s w g _ (extension p q r a b) = same_extend p q r (Closure-inferred s w g _ a) (Closure-inferred s w g _ b)
Closure-inferred s w g _ (type p q t a b) = same_type p q t (Closure-inferred s w g _ a) (Closure-inferred s w g _ b)
Closure-inferred s w g _ (feature p f a) = introduced p f (Closure-inferred s w g _ a)
Closure-inferred s w g _ (inference p t m u us a b e l x) =
    raised p m u (below_meet_all s g p t us m (Closure-inferred s w g _ a) (λ v i. Closure-inferred s w g _ (b v i)) e) l
Closure-inferred s w g _ (facts p t m u us c a b e l x h) =
    constrained p u c (raised p m u (below_meet_all s g p t us m (Closure-inferred s w g _ a) (λ v i. Closure-inferred s w g _ (b v i)) e) l) h

-- some types at a path, one or more, have a meet at or below t
pub record Covers (s : System) (w : ℕ → Bool) (g : Claim → Type 0) (p : Path) (t : ℕ) : Type 0 where
  pub first : ℕ
  pub others : List ℕ
  pub meet : ℕ
  pub first_at : Inferred s w g (below p first)
  pub others_at : (u : ℕ) → Has u others → Inferred s w g (below p u)
  pub is_meet : meet_all s first others ≡ Some meet
  pub lower : s.is_below meet t ≡ true

-- the types at each path have a meet
abbrev pub HaveMeets : System → (ℕ → Bool) → (Claim → Type 0) → Type 0
HaveMeets s w g =
    (p : Path) (t : ℕ) (us : List ℕ) → Inferred s w g (below p t) → ((u : ℕ) → Has u us → Inferred s w g (below p u)) →
    (m : ℕ) × (meet_all s t us ≡ Some m)

-- where the types at each path have meets, a claim of the closure is inferred, or covered by inferred types
abbrev pub IsCovered : System → (ℕ → Bool) → (Claim → Type 0) → Claim → Type 0
IsCovered s w g (exists_at p) = Inferred s w g (exists_at p)
IsCovered s w g (same p q) = Inferred s w g (same p q)
IsCovered s w g (below p t) = Inferred s w g (exists_at p) × ((s.is_below s.top t ≡ true) ⊎ Covers s w g p t)

-- the meet of a list is below each of its types, and what is below each is below the meet
pub meet_all-lower : (s : System) → IsOrder s → (t : ℕ) (us : List ℕ) (m : ℕ) → meet_all s t us ≡ Some m →
    (s.is_below m t ≡ true) × ((u : ℕ) → Has u us → s.is_below m u ≡ true)
meet_all-lower s o t [] m e = (let h : t ≡ m = cc in subst (λ x. s.is_below x t ≡ true) h (o.reflexive t), λ u h. elim h [ ])
meet_all-lower s o t (v ∷ us) m e = go (s.meet t v) refl e (λ k. meet_all-lower s o k us m)
  where
    go : (r : Option ℕ) → s.meet t v ≡ r → elim r as (λ _. Option ℕ) [ None ↦ None | Some k ↦ meet_all s k us ] ≡ Some m →
        ((k : ℕ) → meet_all s k us ≡ Some m → (s.is_below m k ≡ true) × ((u : ℕ) → Has u us → s.is_below m u ≡ true)) →
        (s.is_below m t ≡ true) × ((u : ℕ) → Has u (v ∷ us) → s.is_below m u ≡ true)
    go None is e' rest = absurd cc
    go (Some k) is e' rest =
        let r = rest k e' in
        let b = o.meet_below t v k is in
        (o.transitive _ _ _ r.0 b.0, each r.1 (o.transitive _ _ _ r.0 b.1))
      where
        each : ((u : ℕ) → Has u us → s.is_below m u ≡ true) → s.is_below m v ≡ true → (u : ℕ) → Has u (v ∷ us) → s.is_below m u ≡ true
        each all one _ here = one
        each all one u (there h) = all u h

pub meet_all-greatest : (s : System) → IsOrder s → (t : ℕ) (us : List ℕ) (m x : ℕ) → meet_all s t us ≡ Some m → s.is_below x t ≡ true →
    ((u : ℕ) → Has u us → s.is_below x u ≡ true) → s.is_below x m ≡ true
meet_all-greatest s o t [] m x e a b = let h : t ≡ m = cc in subst (λ y. s.is_below x y ≡ true) h a
meet_all-greatest s o t (v ∷ us) m x e a b = go (s.meet t v) refl e (λ k c d. meet_all-greatest s o k us m x c d (λ u h. b u (there h)))
  where
    go : (r : Option ℕ) → s.meet t v ≡ r → elim r as (λ _. Option ℕ) [ None ↦ None | Some k ↦ meet_all s k us ] ≡ Some m →
        ((k : ℕ) → meet_all s k us ≡ Some m → s.is_below x k ≡ true → s.is_below x m ≡ true) → s.is_below x m ≡ true
    go None is e' rest = absurd cc
    go (Some k) is e' rest = rest k e' (o.meet_greatest t v k x is a (b v here))

either : {X : Type 0} (P : X → Type 0) (xs ys : List X) → ((x : X) → Has x xs → P x) → ((x : X) → Has x ys → P x) → (x : X) → Has x (xs ++ ys) → P x
either P [] ys a b x h = b x h
either P (z ∷ xs) ys a b _ here = a _ here
either P (z ∷ xs) ys a b x (there h) = either P xs ys (λ y i. a y (there i)) b x h

on_left : {X : Type 0} (x : X) (xs ys : List X) → Has x xs → Has x (xs ++ ys)
on_left x _ ys here = here
on_left x _ ys (there h) = there (on_left x _ ys h)

on_right : {X : Type 0} (xs ys : List X) (x : X) → Has x ys → Has x (xs ++ ys)
on_right [] ys x h = h
on_right (z ∷ xs) ys x h = there (on_right xs ys x h)

cover_one : (s : System) → IsOrder s → (w : ℕ → Bool) (g : Claim → Type 0) (p : Path) (t : ℕ) → Inferred s w g (below p t) → Covers s w g p t
cover_one s o w g p t a =
    record { first = t; others = []; meet = t; first_at = a; others_at = λ u h. elim h [ ]; is_meet = refl; lower = o.reflexive t }

of_inferred : (s : System) → IsOrder s → (w : ℕ → Bool) (g : Claim → Type 0) (c : Claim) → Inferred s w g c → IsCovered s w g c
of_inferred s o w g (exists_at p) a = a
of_inferred s o w g (same p q) a = a
of_inferred s o w g (below p t) a = (exists_below p t a, inr (cover_one s o w g p t a))

cover_both : (s : System) → IsOrder s → (w : ℕ → Bool) (g : Claim → Type 0) → HaveMeets s w g → (p : Path) (t u m : ℕ) → s.meet t u ≡ Some m →
    Covers s w g p t → Covers s w g p u → Covers s w g p m
cover_both s o w g meets p t u m e a b = record {
  first = a.first;
  others = a.others ++ b.first ∷ b.others;
  meet = all.0;
  first_at = a.first_at;
  others_at = at_all;
  is_meet = all.1;
  lower = o.meet_greatest t u m all.0 e (o.transitive _ _ _ below_a a.lower) (o.transitive _ _ _ below_b b.lower);
}
  where
    of_b : (v : ℕ) → Has v (b.first ∷ b.others) → Inferred s w g (below p v)
    of_b _ here = b.first_at
    of_b v (there h) = b.others_at v h

    at_all : (v : ℕ) → Has v (a.others ++ b.first ∷ b.others) → Inferred s w g (below p v)
    at_all = either (λ v. Inferred s w g (below p v)) a.others (b.first ∷ b.others) a.others_at of_b

    all : (k : ℕ) × (meet_all s a.first (a.others ++ b.first ∷ b.others) ≡ Some k)
    all = meets p a.first (a.others ++ b.first ∷ b.others) a.first_at at_all

    low : (s.is_below all.0 a.first ≡ true) × ((v : ℕ) → Has v (a.others ++ b.first ∷ b.others) → s.is_below all.0 v ≡ true)
    low = meet_all-lower s o a.first (a.others ++ b.first ∷ b.others) all.0 all.1

    below_a : s.is_below all.0 a.meet ≡ true
    below_a = meet_all-greatest s o a.first a.others a.meet all.0 a.is_meet low.0 (λ v h. low.1 v (on_left v a.others _ h))

    below_b : s.is_below all.0 b.meet ≡ true
    below_b = meet_all-greatest s o b.first b.others b.meet all.0 b.is_meet (low.1 b.first (on_right a.others _ b.first here))
        (λ v h. low.1 v (on_right a.others _ v (there h)))

moved : (s : System) (w : ℕ → Bool) (g : Claim → Type 0) (p q : Path) (t : ℕ) → Inferred s w g (same p q) →
    (s.is_below s.top t ≡ true) ⊎ Covers s w g p t → (s.is_below s.top t ≡ true) ⊎ Covers s w g q t
moved s w g p q t e (inl a) = inl a
moved s w g p q t e (inr a) = inr (record {
  first = a.first;
  others = a.others;
  meet = a.meet;
  first_at = type p q _ e a.first_at;
  others_at = λ u h. type p q _ e (a.others_at u h);
  is_meet = a.is_meet;
  lower = a.lower;
})

higher : (s : System) → IsOrder s → (w : ℕ → Bool) (g : Claim → Type 0) (p : Path) (t u : ℕ) → s.is_below t u ≡ true →
    (s.is_below s.top t ≡ true) ⊎ Covers s w g p t → (s.is_below s.top u ≡ true) ⊎ Covers s w g p u
higher s o w g p t u e (inl a) = inl (o.transitive _ _ _ a e)
higher s o w g p t u e (inr a) = inr (record {
  first = a.first;
  others = a.others;
  meet = a.meet;
  first_at = a.first_at;
  others_at = a.others_at;
  is_meet = a.is_meet;
  lower = o.transitive _ _ _ a.lower e;
})

both : (s : System) → IsOrder s → (w : ℕ → Bool) (g : Claim → Type 0) → HaveMeets s w g → (p : Path) (t u m : ℕ) → s.meet t u ≡ Some m →
    (s.is_below s.top t ≡ true) ⊎ Covers s w g p t → (s.is_below s.top u ≡ true) ⊎ Covers s w g p u →
    (s.is_below s.top m ≡ true) ⊎ Covers s w g p m
both s o w g meets p t u m e (inl a) (inl b) = inl (o.meet_greatest t u m s.top e a b)
both s o w g meets p t u m e (inl a) (inr b) =
    higher s o w g p u m (o.meet_greatest t u m u e (o.transitive _ _ _ (o.below_top u) a) (o.reflexive u)) (inr b)
both s o w g meets p t u m e (inr a) (inl b) =
    higher s o w g p t m (o.meet_greatest t u m t e (o.reflexive t) (o.transitive _ _ _ (o.below_top t) b)) (inr a)
both s o w g meets p t u m e (inr a) (inr b) = inr (cover_both s o w g meets p t u m e a b)

-- the facts of a type that is covered
at_written : (s : System) (w : ℕ → Bool) (g : Claim → Type 0) (p : Path) (t : ℕ) (c : Claim) → w t ≡ true → (s.is_below s.top t ≡ true → ⊥) →
    (s.is_below s.top t ≡ true) ⊎ Covers s w g p t → Has c (s.facts_of t) → Inferred s w g (at p c)
at_written s w g p t c is not_top (inl a) h = absurd (not_top a)
at_written s w g p t c is not_top (inr a) h = facts p _ _ t a.others c a.first_at a.others_at a.is_meet a.lower is h

pub Closure-covered : (s : System) → IsOrder s → (w : ℕ → Bool) (g : Claim → Type 0) → HaveMeets s w g →
    FactsAreWritten s w → IsBare s →
    (c : Claim) → Closure s g c → IsCovered s w g c
Closure-covered s o w g meets written none _ (given_claim c h) = of_inferred s o w g c (given_one c h)
Closure-covered s o w g meets written none _ (same_exists p q a) = exists_same p q (Closure-covered s o w g meets written none _ a)
Closure-covered s o w g meets written none _ (below_exists p t a) = (Closure-covered s o w g meets written none _ a).0
Closure-covered s o w g meets written none _ (prefix p q a) = exists_prefix p q (Closure-covered s o w g meets written none _ a)
Closure-covered s o w g meets written none _ (same_refl p a) = itself p (Closure-covered s o w g meets written none _ a)
Closure-covered s o w g meets written none _ (same_sym p q a) = back p q (Closure-covered s o w g meets written none _ a)
Closure-covered s o w g meets written none _ (same_trans p q r a b) =
    on p q r (Closure-covered s o w g meets written none _ a) (Closure-covered s o w g meets written none _ b)
Closure-covered s o w g meets written none _ (same_extend p q r a b) =
    extension p q r (Closure-covered s o w g meets written none _ a) (Closure-covered s o w g meets written none _ b)
Closure-covered s o w g meets written none _ (same_type p q t a b) =
    let e = Closure-covered s o w g meets written none _ a in
    let x = Closure-covered s o w g meets written none _ b in
    (exists_same q p (back p q e), moved s w g p q t e x.1)
Closure-covered s o w g meets written none _ (introduced p f a) =
    of_inferred s o w g _ (feature p f (Closure-covered s o w g meets written none _ a))
Closure-covered s o w g meets written none _ (met p t u m a b e) =
    let x = Closure-covered s o w g meets written none _ a in
    let y = Closure-covered s o w g meets written none _ b in
    (x.0, both s o w g meets p t u m e x.1 y.1)
Closure-covered s o w g meets written none _ (raised p t u a e) =
    let x = Closure-covered s o w g meets written none _ a in (x.0, higher s o w g p t u e x.1)
Closure-covered s o w g meets written none _ (topped p a) =
    (Closure-covered s o w g meets written none _ a, inl (o.reflexive s.top))
Closure-covered s o w g meets written none _ (constrained p t c a h) =
    of_inferred s o w g _
    (at_written s w g p t c (written t c h) (λ top. none t c top h) (Closure-covered s o w g meets written none _ a).1 h)

-- two covers have a common lower bound
covers_meet : (s : System) → IsOrder s → (w : ℕ → Bool) (g : Claim → Type 0) → HaveMeets s w g → (p : Path) (t u : ℕ) →
    Covers s w g p t → Covers s w g p u → (v : ℕ) × (s.is_below v t ≡ true) × (s.is_below v u ≡ true)
covers_meet s o w g meets p t u a b = (
  all.0,
  o.transitive _ _ _ (meet_all-greatest s o a.first a.others a.meet all.0 a.is_meet low.0 (λ v h. low.1 v (on_left v a.others _ h))) a.lower,
  o.transitive _ _ _ (meet_all-greatest s o b.first b.others b.meet all.0 b.is_meet (low.1 b.first (on_right a.others _ b.first here))
      (λ v h. low.1 v (on_right a.others _ v (there h)))) b.lower,
)
  where
    of_b : (v : ℕ) → Has v (b.first ∷ b.others) → Inferred s w g (below p v)
    of_b _ here = b.first_at
    of_b v (there h) = b.others_at v h

    all : (k : ℕ) × (meet_all s a.first (a.others ++ b.first ∷ b.others) ≡ Some k)
    all = meets p a.first (a.others ++ b.first ∷ b.others) a.first_at
        (either (λ v. Inferred s w g (below p v)) a.others (b.first ∷ b.others) a.others_at of_b)

    low : (s.is_below all.0 a.first ≡ true) × ((v : ℕ) → Has v (a.others ++ b.first ∷ b.others) → s.is_below all.0 v ≡ true)
    low = meet_all-lower s o a.first (a.others ++ b.first ∷ b.others) all.0 all.1

-- where the listed types at each path have a meet, any two types of the closure at one path have one
pub typed-from_lists : (s : System) → IsOrder s → (w : ℕ → Bool) (g : Claim → Type 0) → HaveMeets s w g →
    FactsAreWritten s w → IsBare s →
    (p : Path) (t u : ℕ) → Closure s g (below p t) → Closure s g (below p u) → (m : ℕ) × (s.meet t u ≡ Some m)
typed-from_lists s o w g meets written none p t u a b =
    go (Closure-covered s o w g meets written none _ a).1 (Closure-covered s o w g meets written none _ b).1
  where
    go : (s.is_below s.top t ≡ true) ⊎ Covers s w g p t → (s.is_below s.top u ≡ true) ⊎ Covers s w g p u → (m : ℕ) × (s.meet t u ≡ Some m)
    go (inl x) (inl y) = o.meet_exists t u s.top x y
    go (inl x) (inr y) = o.meet_exists t u u (o.transitive _ _ _ (o.below_top u) x) (o.reflexive u)
    go (inr x) (inl y) = o.meet_exists t u t (o.reflexive t) (o.transitive _ _ _ (o.below_top t) y)
    go (inr x) (inr y) = let v = covers_meet s o w g meets p t u x y in o.meet_exists t u v.0 v.1 v.2

-- where any two types at a path have a meet, so do the types of a list
pub lists-from_typed : (s : System) (g : Claim → Type 0) →
    ((p : Path) (t u : ℕ) → Closure s g (below p t) → Closure s g (below p u) → (m : ℕ) × (s.meet t u ≡ Some m)) →
    (p : Path) (t : ℕ) (us : List ℕ) → Closure s g (below p t) → ((u : ℕ) → Has u us → Closure s g (below p u)) →
    (m : ℕ) × (meet_all s t us ≡ Some m)
lists-from_typed s g typed p t [] a b = (t, refl)
lists-from_typed s g typed p t (u ∷ us) a b =
    let k = typed p t u a (b u here) in
    let rest = lists-from_typed s g typed p k.0 us (met p t u k.0 a (b u here) k.1) (λ v h. b v (there h)) in
    (rest.0, ap (λ r. elim r as (λ _. Option ℕ) [ None ↦ None | Some m ↦ meet_all s m us ]) k.1 ∙ rest.1)

-- the meet of the types at a path, and of the types listed there
meets_agree : (s : System) → IsOrder s → (w : ℕ → Bool) (g : Claim → Type 0) → HaveMeets s w g → FactsAreWritten s w → IsBare s → (p : Path) (u : ℕ) →
    IsUnderAll s (Inferred s w g) p u → IsUnderAll s (Closure s g) p u
meets_agree s o w g meets written none p u all t a = go (Closure-covered s o w g meets written none _ a).1
  where
    go : (s.is_below s.top t ≡ true) ⊎ Covers s w g p t → s.is_below u t ≡ true
    go (inl x) = o.transitive _ _ _ (o.below_top u) x
    go (inr x) =
        o.transitive _ _ _ (meet_all-greatest s o x.first x.others x.meet u x.is_meet (all _ x.first_at) (λ v i. all v (x.others_at v i))) x.lower

-- the two forms agree
pub forms_agree : (s : System) → IsOrder s → IsBare s → (w : ℕ → Bool) → FactsAreWritten s w → (g : Claim → Type 0) → FormsAgree s w g
forms_agree s o none w written g = record {
  consistent = (to_list, from_list);
  paths = λ ok p. (λ a. Closure-covered s o w g (to_list ok).typed written none _ a, Closure-inferred s w g _);
  equalities = λ ok p q. (λ a. Closure-covered s o w g (to_list ok).typed written none _ a, Closure-inferred s w g _);
  meets = λ ok p u. (
    λ all t a. all t (Closure-inferred s w g _ a),
    meets_agree s o w g (to_list ok).typed written none p u,
  );
}
  where
    to_list : IsConsistent s g → IsListConsistent s w g
    to_list ok = record {
      typed = λ p t us a b. lists-from_typed s g ok.typed p t us (Closure-inferred s w g _ a) (λ u i. Closure-inferred s w g _ (b u i));
      bounded = λ p a. ok.bounded p (Closure-inferred s w g _ a);
    }

    from_list : IsListConsistent s w g → IsConsistent s g
    from_list ok = record {
      typed = typed-from_lists s o w g ok.typed written none;
      bounded = λ p a. ok.bounded p (Closure-covered s o w g ok.typed written none _ a);
    }
