-- A reach by marks and a stack.
use Rattle.std.proofs.Common.{ℕ, zero, suc, ◌≡◌, ◌≢◌, ◌≤◌, ◌<◌, ◌+◌, ◌*◌, ◌⊎◌, inl, inr, Bool, true, false, cond, List, [], ◌∷◌, ◌++◌, length, slice_index_or, All, Vec, refl, sym, ◌∙◌, ap, subst, arith, length-append, replicate}
use Rattle.std.specs.Global.{Global}
use Rattle.std.proofs.Math.ListN.{set}
use Rattle.std.proofs.lemmas.List.{get_or-set_same, get_or-set_other, length-set, get_or-map, length-map, length-replicate}
use Rattle.std.proofs.lemmas.Bool.{cases_lt}
use Rattle.type_hierarchy.specs.Order.{Has, here, there, IsAtOrBelow, itself, above_parent, IsBelow}
use Rattle.type_hierarchy.specs.Inner.Reach.{visited, IsReach, lists}

abbrev pub mark : List Bool → ℕ → Bool
mark seen x = slice_index_or seen x false

abbrev pub unmarked : List Bool → ℕ
unmarked [] = 0
unmarked (b ∷ bs) = cond b (unmarked bs) (suc (unmarked bs))

unmarked-set : (seen : List Bool) (y : ℕ) → y < length seen → mark seen y ≡ false → suc (unmarked (set seen y true)) ≡ unmarked seen
unmarked-set [] y h e = absurd (omega arith)
unmarked-set (b ∷ bs) zero h e = rw e refl
unmarked-set (b ∷ bs) (suc y) h e = go b (unmarked-set bs y (omega arith) e)
  where
    go : (b : Bool) → suc (unmarked (set bs y true)) ≡ unmarked bs →
        suc (cond b (unmarked (set bs y true)) (suc (unmarked (set bs y true)))) ≡ cond b (unmarked bs) (suc (unmarked bs))
    go true r = r
    go false r = ap suc r

Has-left : {X : Type 0} (x : X) (xs ys : List X) → Has x xs → Has x (xs ++ ys)
Has-left x _ ys here = here
Has-left x _ ys (there h) = there (Has-left x _ ys h)

Has-right : {X : Type 0} (x : X) (xs ys : List X) → Has x ys → Has x (xs ++ ys)
Has-right x [] ys h = h
Has-right x (z ∷ xs) ys h = there (Has-right x xs ys h)

Has-either : {X : Type 0} (x : X) (xs ys : List X) → Has x (xs ++ ys) → Has x xs ⊎ Has x ys
Has-either x [] ys h = inr h
Has-either x (z ∷ xs) ys here = inl here
Has-either x (z ∷ xs) ys (there h) = go (Has-either x xs ys h)
  where
    go : Has x xs ⊎ Has x ys → Has x (z ∷ xs) ⊎ Has x ys
    go (inl a) = inl (there a)
    go (inr a) = inr a

Has-one : {X : Type 0} (c d : X) → Has c (d ∷ []) → d ≡ c
Has-one c _ here = refl
Has-one c d (there h) = elim h [ ]

-- what a visit leaves
pub record Visits (ys : List ℕ) (seen : List Bool) (stack : List ℕ) (seen' : List Bool) (stack' : List ℕ) : Type 0 where
  pub size : length seen' ≡ length seen
  pub grows : (y : ℕ) → mark seen y ≡ true → mark seen' y ≡ true
  pub listed : (y : ℕ) → Has y ys → mark seen' y ≡ true
  pub fresh : (y : ℕ) → mark seen' y ≡ true → (mark seen y ≡ true) ⊎ (Has y ys × Has y stack')
  pub keeps : (y : ℕ) → Has y stack → Has y stack'
  pub only : (y : ℕ) → Has y stack' → Has y stack ⊎ Has y ys
  pub lighter : 2 * unmarked seen' + length stack' ≤ 2 * unmarked seen + length stack

mark-set : (seen : List Bool) (y z : ℕ) → y < length seen → (y ≡ z) ⊎ (z ≢ y) → mark seen z ≡ true → mark (set seen y true) z ≡ true
mark-set seen y z h (inl e) m = subst (λ x. mark (set seen y true) x ≡ true) e (get_or-set_same seen y true false h)
mark-set seen y z h (inr e) m = get_or-set_other seen y z true false e ∙ m

same_or_other : (y z : ℕ) → (y ≡ z) ⊎ (z ≢ y)
same_or_other y z = go (cases_lt y z) (cases_lt z y)
  where
    go : (y < z) ⊎ (z ≤ y) → (z < y) ⊎ (y ≤ z) → (y ≡ z) ⊎ (z ≢ y)
    go (inl a) _ = inr (λ e. omega arith)
    go (inr a) (inl b) = inr (λ e. omega arith)
    go (inr a) (inr b) = inl (omega arith)

skips : (y : ℕ) (ys : List ℕ) (seen : List Bool) (stack : List ℕ) (seen' : List Bool) (stack' : List ℕ) → mark seen y ≡ true →
    Visits ys seen stack seen' stack' → Visits (y ∷ ys) seen stack seen' stack'
skips y ys seen stack seen' stack' e v = record {
  size = v.size;
  grows = v.grows;
  listed = λ z i. listed z i;
  fresh = λ z m. fresh (v.fresh z m);
  keeps = v.keeps;
  only = λ z i. only (v.only z i);
  lighter = v.lighter;
}
  where
    listed : (z : ℕ) → Has z (y ∷ ys) → mark seen' z ≡ true
    listed _ here = v.grows y e
    listed z (there i) = v.listed z i

    fresh : {z : ℕ} → (mark seen z ≡ true) ⊎ (Has z ys × Has z stack') → (mark seen z ≡ true) ⊎ (Has z (y ∷ ys) × Has z stack')
    fresh (inl a) = inl a
    fresh (inr a) = inr (there a.0, a.1)

    only : {z : ℕ} → Has z stack ⊎ Has z ys → Has z stack ⊎ Has z (y ∷ ys)
    only (inl a) = inl a
    only (inr a) = inr (there a)

pushes : (y : ℕ) (ys : List ℕ) (seen : List Bool) (stack : List ℕ) (seen' : List Bool) (stack' : List ℕ) → y < length seen → mark seen y ≡ false →
    Visits ys (set seen y true) (stack ++ y ∷ []) seen' stack' → Visits (y ∷ ys) seen stack seen' stack'
pushes y ys seen stack seen' stack' h e v = record {
  size = v.size ∙ length-set seen y true;
  grows = λ z m. v.grows z (mark-set seen y z h (same_or_other y z) m);
  listed = λ z i. listed z i;
  fresh = λ z m. fresh z (v.fresh z m) (same_or_other y z);
  keeps = λ z i. v.keeps z (Has-left z stack _ i);
  only = λ z i. only z (v.only z i);
  lighter = omega (arith, v.lighter, unmarked-set seen y h e, length-append stack (y ∷ []));
}
  where
    listed : (z : ℕ) → Has z (y ∷ ys) → mark seen' z ≡ true
    listed _ here = v.grows y (get_or-set_same seen y true false h)
    listed z (there i) = v.listed z i

    fresh : (z : ℕ) → (mark (set seen y true) z ≡ true) ⊎ (Has z ys × Has z stack') → (y ≡ z) ⊎ (z ≢ y) →
        (mark seen z ≡ true) ⊎ (Has z (y ∷ ys) × Has z stack')
    fresh z (inr a) _ = inr (there a.0, a.1)
    fresh z (inl m) (inr d) = inl (sym (get_or-set_other seen y z true false d) ∙ m)
    fresh z (inl m) (inl d) =
        inr (subst (λ x. Has x (y ∷ ys) × Has x stack') d (here, v.keeps y (Has-right y stack (y ∷ []) here)))

    only : (z : ℕ) → Has z (stack ++ y ∷ []) ⊎ Has z ys → Has z stack ⊎ Has z (y ∷ ys)
    only z (inr a) = inr (there a)
    only z (inl a) = go (Has-either z stack (y ∷ []) a)
      where
        go : Has z stack ⊎ Has z (y ∷ []) → Has z stack ⊎ Has z (y ∷ ys)
        go (inl b) = inl b
        go (inr b) = inr (subst (λ x. Has x (y ∷ ys)) (Has-one z y b) here)

abbrev chosen : Bool → ℕ → List ℕ → List Bool → List ℕ → List Bool × List ℕ
chosen b y ys seen stack = elim b [ true ↦ visited ys (seen, stack) | false ↦ visited ys (set seen y true, stack ++ y ∷ []) ]

pub visited-visits : (ys : List ℕ) (seen : List Bool) (stack : List ℕ) → ((y : ℕ) → Has y ys → y < length seen) →
    Visits ys seen stack (visited ys (seen, stack)).0 (visited ys (seen, stack)).1
visited-visits [] seen stack h = record {
  size = refl;
  grows = λ y e. e;
  listed = λ y i. elim i [ ];
  fresh = λ y e. inl e;
  keeps = λ y i. i;
  only = λ y i. inl i;
  lighter = omega arith;
}
visited-visits (y ∷ ys) seen stack h = go (mark seen y) refl (visited-visits ys seen stack (λ z i. h z (there i)))
    (visited-visits ys (set seen y true) (stack ++ y ∷ []) (λ z i. subst (λ n. z < n) (sym (length-set seen y true)) (h z (there i))))
  where
    go : (b : Bool) → mark seen y ≡ b → Visits ys seen stack (visited ys (seen, stack)).0 (visited ys (seen, stack)).1 →
        Visits ys (set seen y true) (stack ++ y ∷ []) (visited ys (set seen y true, stack ++ y ∷ [])).0 (visited ys (set seen y true, stack ++ y ∷ [])).1 →
        Visits (y ∷ ys) seen stack (visited (y ∷ ys) (seen, stack)).0 (visited (y ∷ ys) (seen, stack)).1
    go true e skip push = subst (λ b. Visits (y ∷ ys) seen stack (chosen b y ys seen stack).0 (chosen b y ys seen stack).1) (sym e) (skips y ys seen stack _ _ e skip)
    go false e skip push = subst (λ b. Visits (y ∷ ys) seen stack (chosen b y ys seen stack).0 (chosen b y ys seen stack).1) (sym e) (pushes y ys seen stack _ _ (h y here) e push)

-- the marks and the stack of a reach
pub record Reaching (parents : List (List ℕ)) (from : ℕ) (seen : List Bool) (stack : List ℕ) : Type 0 where
  pub size : length seen ≡ length parents
  pub start : (y : ℕ) → Has y (slice_index_or parents from []) → mark seen y ≡ true
  pub sound : (x : ℕ) → mark seen x ≡ true → IsBelow parents from x
  pub stacked : (x : ℕ) → Has x stack → mark seen x ≡ true
  pub followed : (x y : ℕ) → mark seen x ≡ true → Has y (slice_index_or parents x []) → (mark seen y ≡ true) ⊎ Has x stack

pub one_further : (parents : List (List ℕ)) (t x y : ℕ) → IsAtOrBelow parents t x → Has y (slice_index_or parents x []) → IsAtOrBelow parents t y
one_further parents t _ y (itself _) h = above_parent t y y h (itself y)
one_further parents t x y (above_parent _ p _ a b) h = above_parent t p y a (one_further parents p x y b h)

pub reaching_on : (parents : List (List ℕ)) (from x : ℕ) (seen : List Bool) (stack rest : List ℕ) (seen' : List Bool) (stack' : List ℕ) →
    Reaching parents from seen stack → stack ≡ rest ++ x ∷ [] → Visits (slice_index_or parents x []) seen rest seen' stack' →
    Reaching parents from seen' stack' × (2 * unmarked seen' + length stack' < 2 * unmarked seen + length stack)
reaching_on parents from x seen stack rest seen' stack' r is v = (
  record {
    size = v.size ∙ r.size;
    start = λ y i. v.grows y (r.start y i);
    sound = λ y m. sound y (v.fresh y m);
    stacked = λ y i. stacked y (v.only y i);
    followed = λ y z m i. followed y z i (v.fresh y m);
  },
  omega (arith, v.lighter, ap length is, length-append rest (x ∷ [])),
)
  where
    x_seen : mark seen x ≡ true
    x_seen = r.stacked x (subst (Has x) (sym is) (Has-right x rest (x ∷ []) here))

    sound : (y : ℕ) → (mark seen y ≡ true) ⊎ (Has y (slice_index_or parents x []) × Has y stack') → IsBelow parents from y
    sound y (inl m) = r.sound y m
    sound y (inr a) = let up = r.sound x x_seen in (up.0, up.1, one_further parents up.0 x y up.2 a.0)

    stacked : (y : ℕ) → Has y rest ⊎ Has y (slice_index_or parents x []) → mark seen' y ≡ true
    stacked y (inl i) = v.grows y (r.stacked y (subst (Has y) (sym is) (Has-left y rest _ i)))
    stacked y (inr i) = v.listed y i

    followed : (y z : ℕ) → Has z (slice_index_or parents y []) → (mark seen y ≡ true) ⊎ (Has y (slice_index_or parents x []) × Has y stack') →
        (mark seen' z ≡ true) ⊎ Has y stack'
    followed y z i (inr a) = inr a.1
    followed y z i (inl m) = go (r.followed y z m i)
      where
        at_x : x ≡ y → (mark seen' z ≡ true) ⊎ Has y stack'
        at_x e = inl (v.listed z (subst (λ w. Has z (slice_index_or parents w [])) (sym e) i))

        in_rest : Has y rest ⊎ Has y (x ∷ []) → (mark seen' z ≡ true) ⊎ Has y stack'
        in_rest (inl b) = inr (v.keeps y b)
        in_rest (inr b) = at_x (Has-one y x b)

        go : (mark seen z ≡ true) ⊎ Has y stack → (mark seen' z ≡ true) ⊎ Has y stack'
        go (inl a) = inl (v.grows z a)
        go (inr a) = in_rest (Has-either y rest (x ∷ []) (subst (Has y) is a))

pub reaching_ends : (parents : List (List ℕ)) (from : ℕ) (seen : List Bool) (stack : List ℕ) → Reaching parents from seen stack → stack ≡ [] →
    IsReach parents from seen
reaching_ends parents from seen stack r is = record {
  one_each = r.size;
  told = λ x h. (r.sound x, λ a. along a.0 x a.2 (r.start a.0 a.1));
}
  where
    along : (a b : ℕ) → IsAtOrBelow parents a b → mark seen a ≡ true → mark seen b ≡ true
    along a _ (itself _) m = m
    along a b (above_parent _ p _ i rest) m = along p b rest (go (r.followed a p m i))
      where
        go : (mark seen p ≡ true) ⊎ Has a stack → mark seen p ≡ true
        go (inl x) = x
        go (inr x) = absurd (elim (subst (Has a) is x) [ ])

-- the start
mark-none : (n x : ℕ) → mark (replicate n false) x ≡ true → ⊥
mark-none zero x e = cc
mark-none (suc n) zero e = cc
mark-none (suc n) (suc x) e = mark-none n x e

pub reaching_starts : (parents : List (List ℕ)) (from n : ℕ) (none seen : List Bool) (empty stack : List ℕ) → n ≡ length parents →
    none ≡ replicate n false → empty ≡ [] → Visits (slice_index_or parents from []) none empty seen stack → Reaching parents from seen stack
reaching_starts parents from n none seen empty stack e is is' v = record {
  size = v.size ∙ ap length is ∙ length-replicate n false ∙ e;
  start = v.listed;
  sound = λ x m. sound x (v.fresh x m);
  stacked = λ x i. stacked x (v.only x i);
  followed = λ x y m i. followed y x (v.fresh x m);
}
  where
    unseen : (x : ℕ) → mark none x ≡ true → ⊥
    unseen x m = mark-none n x (subst (λ k. mark k x ≡ true) is m)

    sound : (x : ℕ) → (mark none x ≡ true) ⊎ (Has x (slice_index_or parents from []) × Has x stack) → IsBelow parents from x
    sound x (inl m) = absurd (unseen x m)
    sound x (inr a) = (x, a.0, itself x)

    stacked : (x : ℕ) → Has x empty ⊎ Has x (slice_index_or parents from []) → mark seen x ≡ true
    stacked x (inl i) = absurd (elim (subst (Has x) is' i) [ ])
    stacked x (inr i) = v.listed x i

    followed : (y x : ℕ) → (mark none x ≡ true) ⊎ (Has x (slice_index_or parents from []) × Has x stack) → (mark seen y ≡ true) ⊎ Has x stack
    followed y x (inl m) = absurd (unseen x m)
    followed y x (inr a) = inr a.1

pub Has-All : (n : ℕ) (xs : List ℕ) → All (λ x. x < n) xs → (y : ℕ) → Has y xs → y < n
Has-All n [] a y h = elim h [ ]
Has-All n (x ∷ xs) a _ here = a 0 0 (omega arith)
Has-All n (x ∷ xs) a y (there h) = Has-All n xs (λ k d i. a (suc k) d (omega arith)) y h

pub mark-in : (seen : List Bool) (x : ℕ) → mark seen x ≡ true → x < length seen
mark-in [] x e = cc
mark-in (b ∷ bs) zero e = omega arith
mark-in (b ∷ bs) (suc x) e = let r = mark-in bs x e in omega arith

pub code_visits : (ys : List ℕ) (seen : List Bool) (stack : List ℕ) (seen' : List Bool) (stack' : List ℕ) →
    (seen', stack') ≡ visited ys (seen, stack) → All (λ x. x < length seen) ys → Visits ys seen stack seen' stack'
code_visits ys seen stack seen' stack' e a =
    let v = visited-visits ys seen stack (Has-All (length seen) ys a) in
    subst (λ k. Visits ys seen stack k stack') (sym (ap (λ s. s.0) e))
    (subst (λ k. Visits ys seen stack (visited ys (seen, stack)).0 k) (sym (ap (λ s. s.1) e)) v)

-- a row as the code reads it
pub row_at : (parents : List (Vec ℕ Global)) (x : ℕ) (row : Vec ℕ Global) (now : List ℕ) → x < length parents → row ≡ slice_index_or parents x row →
    now ≡ row.items → slice_index_or (lists parents) x [] ≡ now
row_at parents x row now h is is_now = get_or-map (λ v. v.items) parents x row [] h ∙ ap (λ v. v.items) (sym is) ∙ sym is_now

pub row_in : (parents : List (Vec ℕ Global)) (n x : ℕ) (row : Vec ℕ Global) (now : List ℕ) → All (λ r. All (λ y. y < n) r.items) parents →
    x < length parents → row ≡ slice_index_or parents x row → now ≡ row.items → All (λ y. y < n) now
row_in parents n x row now all h is is_now =
    subst (All (λ y. y < n)) (ap (λ v. v.items) (sym is) ∙ sym is_now) (all x row h)

pub popped_in : (parents : List (Vec ℕ Global)) (from x : ℕ) (seen : List Bool) (stack rest : List ℕ) → Reaching (lists parents) from seen stack →
    stack ≡ rest ++ x ∷ [] → x < length parents
popped_in parents from x seen stack rest r is =
    let seen_x = mark-in seen x (r.stacked x (subst (Has x) (sym is) (Has-right x rest (x ∷ []) here))) in
    omega (arith, seen_x, r.size, length-map parents (λ v. v.items))

pub nil_of : (xs : List ℕ) → length xs ≡ 0 → xs ≡ []
nil_of [] e = refl
nil_of (x ∷ xs) e = absurd (omega arith)
