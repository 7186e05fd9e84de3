-- Rows that go into those of parents.
use Rattle.std.proofs.Common.{ℕ, zero, suc, ◌≡◌, ◌≢◌, ◌≤◌, ◌<◌, ◌==◌, ◌||◌, ◌↔◌, ◌⊎◌, inl, inr, Bool, true, false, List, [], ◌∷◌, ◌++◌, length, slice_index_or, slice_set, Vec, All, refl, sym, ◌∙◌, ap, subst, arith}
use Rattle.std.specs.Global.{Global}
use Rattle.std.proofs.lemmas.Bool.{cases_lt}
use Rattle.std.proofs.lemmas.List.{length-map, length-set, length-append, get_or-set_same, get_or-set_other, get_or-map, get_or_append_left, get_or_push, map-append}
use Rattle.type_hierarchy.specs.Bits.{has_bit}
use Rattle.type_hierarchy.specs.Inner.Reach.{lists}
use Rattle.type_hierarchy.specs.Order.{Has, here, there, IsAtOrBelow, itself, above_parent}
use Rattle.type_hierarchy.specs.Inner.Rows.{row_at, AreOwn, IsRaised, HoldBelow, AreClosed}
use Rattle.type_hierarchy.proofs.SetLemmas.{eq_true, eq_false, or_cases, or_left}
use Rattle.type_hierarchy.proofs.ReachLemmas.{Has-All}
use Rattle.type_hierarchy.proofs.HierarchyLemmas.{below_trans}

same_or_other : (k x : ℕ) → (k ≡ x) ⊎ (k ≢ x)
same_or_other k x = go (cases_lt k x) (cases_lt x k)
  where
    go : (k < x) ⊎ (x ≤ k) → (x < k) ⊎ (k ≤ x) → (k ≡ x) ⊎ (k ≢ x)
    go (inl a) _ = inr (λ e. omega arith)
    go (inr a) (inl b) = inr (λ e. omega arith)
    go (inr a) (inr b) = inl (omega arith)

-- a row with one number
pub own_bits : (old new : List ℕ) (t : ℕ) → ((x : ℕ) → has_bit old x ≡ false) → has_bit new t ≡ (has_bit old t || true) → ((y : ℕ) → y ≢ t → has_bit new y ≡ has_bit old y) →
    (x : ℕ) → has_bit new x ≡ (x == t)
own_bits old new t none has others x = go (same_or_other x t)
  where
    or_true : (b : Bool) → (b || true) ≡ true
    or_true true = refl
    or_true false = refl

    go : (x ≡ t) ⊎ (x ≢ t) → has_bit new x ≡ (x == t)
    go (inl e) = subst (λ y. has_bit new y ≡ (y == t)) (sym e) (has ∙ or_true (has_bit old t) ∙ sym (eq_true t))
    go (inr ne) = others x ne ∙ none x ∙ sym (eq_false x t ne)

pub own_push : (rows new : List (Vec ℕ Global)) (v : Vec ℕ Global) (t : ℕ) → AreOwn (lists rows) → length rows ≡ t → ((x : ℕ) → has_bit v.items x ≡ (x == t)) → new ≡ rows ++ v ∷ [] → AreOwn (lists new)
own_push rows new v t own size bits is b x h = go (cases_lt b (length rows))
  where
    all : lists new ≡ lists rows ++ v.items ∷ []
    all = ap lists is ∙ map-append (λ r. r.items) rows (v ∷ [])

    count : length (lists rows) ≡ length rows
    count = length-map rows (λ r. r.items)

    go : (b < length rows) ⊎ (length rows ≤ b) → has_bit (row_at (lists new) b) x ≡ (x == b)
    go (inl l) = ap (λ l. has_bit (row_at l b) x) all ∙ ap (λ r. has_bit r x) (get_or_append_left (lists rows) (v.items ∷ []) [] b (omega (arith, count, l))) ∙ own b x (omega (arith, count, l))
    go (inr l) =
        let at : b ≡ t = omega (arith, h, ap length all, length-append (lists rows) (v.items ∷ []), count, size, l) in
        ap (λ l. has_bit (row_at l b) x) all ∙ ap (λ r. has_bit r x) (get_or_push (lists rows) v.items [] b (omega (arith, at, count, size))) ∙ bits x ∙ ap (λ y. x == y) (sym at)

-- one row of a list
pub set_all : {X : Type 0} (P : X → Type 0) (xs new : List X) (i : ℕ) (x : X) → All P xs → P x → i < length xs → new ≡ slice_set xs i x → All P new
set_all P xs new i x all one h is k d l = go (same_or_other k i)
  where
    go : (k ≡ i) ⊎ (k ≢ i) → P (slice_index_or new k d)
    go (inl e) = subst P (sym (ap (λ j. slice_index_or new j d) e ∙ ap (λ q. slice_index_or q i d) is ∙ get_or-set_same xs i x d h)) one
    go (inr ne) = subst P (sym (ap (λ q. slice_index_or q k d) is ∙ get_or-set_other xs i k x d ne)) (all k d (omega (arith, l, ap length is, length-set xs i x)))

pub Has-at : (xs : List ℕ) (i : ℕ) → i < length xs → Has (slice_index_or xs i 0) xs
Has-at [] i h = absurd (omega arith)
Has-at (x ∷ xs) zero h = here
Has-at (x ∷ xs) (suc i) h = there (Has-at xs i (omega arith))

pub Has-index : (x : ℕ) (xs : List ℕ) → Has x xs → (i : ℕ) × (i < length xs) × (slice_index_or xs i 0 ≡ x)
Has-index x _ (here {ys}) = (0, omega arith, refl)
Has-index x _ (there {y} {ys} h) = let i = Has-index x ys h in (suc i.0, omega (arith, i.1), i.2)

pub raised_none : (rows : List (List ℕ)) (types row : List ℕ) → IsRaised rows rows types row
raised_none rows types row = record { size = refl; grows = λ b x h e. e; only = λ b x h e. inl e }

pub raised_more : (first rows new : List (Vec ℕ Global)) (types row : List ℕ) (p : ℕ) (old v : Vec ℕ Global) → IsRaised (lists first) (lists rows) types row → p < length rows → Has p types →
    old ≡ slice_index_or rows p old → new ≡ slice_set rows p v → ((x : ℕ) → has_bit v.items x ≡ (has_bit old.items x || has_bit row x)) → IsRaised (lists first) (lists new) types row
raised_more first rows new types row p old v r l has is set bits = record {
  size = length-map new (λ q. q.items) ∙ ap length set ∙ length-set rows p v ∙ sym (length-map rows (λ q. q.items)) ∙ r.size;
  grows = λ b x h e. grows b x h (same_or_other b p) (r.grows b x h e);
  only = λ b x h e. only b x h (same_or_other b p) e;
}
  where
    in_rows : (b : ℕ) → b < length (lists first) → b < length rows
    in_rows b h = omega (arith, h, r.size, length-map rows (λ q. q.items))

    len : length new ≡ length rows
    len = ap length set ∙ length-set rows p v

    row_new : row_at (lists new) p ≡ v.items
    row_new = get_or-map (λ q. q.items) new p v [] (omega (arith, len, l)) ∙ ap (λ q. q.items) (ap (λ q. slice_index_or q p v) set ∙ get_or-set_same rows p v v l)

    row_old : row_at (lists rows) p ≡ old.items
    row_old = get_or-map (λ q. q.items) rows p old [] l ∙ ap (λ q. q.items) (sym is)

    row_other : (b : ℕ) → b < length rows → b ≢ p → row_at (lists new) b ≡ row_at (lists rows) b
    row_other b h ne = get_or-map (λ q. q.items) new b old [] (omega (arith, len, h)) ∙ ap (λ q. q.items) (ap (λ q. slice_index_or q b old) set ∙ get_or-set_other rows p b v old ne) ∙ sym (get_or-map (λ q. q.items) rows b old [] h)

    grows : (b x : ℕ) → b < length (lists first) → (b ≡ p) ⊎ (b ≢ p) → has_bit (row_at (lists rows) b) x ≡ true → has_bit (row_at (lists new) b) x ≡ true
    grows b x h (inr ne) e = ap (λ q. has_bit q x) (row_other b (in_rows b h) ne) ∙ e
    grows b x h (inl same) e = ap (λ j. has_bit (row_at (lists new) j) x) same ∙ ap (λ q. has_bit q x) row_new ∙ bits x
        ∙ or_left _ _ (ap (λ q. has_bit q x) (sym row_old) ∙ ap (λ j. has_bit (row_at (lists rows) j) x) (sym same) ∙ e)

    only : (b x : ℕ) → b < length (lists first) → (b ≡ p) ⊎ (b ≢ p) → has_bit (row_at (lists new) b) x ≡ true → (has_bit (row_at (lists first) b) x ≡ true) ⊎ (Has b types × (has_bit row x ≡ true))
    only b x h (inr ne) e = r.only b x h (ap (λ q. has_bit q x) (sym (row_other b (in_rows b h) ne)) ∙ e)
    only b x h (inl same) e = go (or_cases _ _ (sym (bits x) ∙ ap (λ q. has_bit q x) (sym row_new) ∙ ap (λ j. has_bit (row_at (lists new) j) x) (sym same) ∙ e))
      where
        go : (has_bit old.items x ≡ true) ⊎ (has_bit row x ≡ true) → (has_bit (row_at (lists first) b) x ≡ true) ⊎ (Has b types × (has_bit row x ≡ true))
        go (inl f) = r.only b x h (ap (λ j. has_bit (row_at (lists rows) j) x) same ∙ ap (λ q. has_bit q x) row_old ∙ f)
        go (inr f) = inr (subst (λ j. Has j types) (sym same) has, f)

pub held_first : (parents rows : List (List ℕ)) → AreOwn rows → HoldBelow parents rows
held_first parents rows own = record {
  own = λ b h. own b b h ∙ eq_true b;
  sound = λ a b h e. subst (λ x. IsAtOrBelow parents x b) (sym (eq a b (sym (own b a h) ∙ e))) (itself b);
}
  where
    eq : (a b : ℕ) → (a == b) ≡ true → a ≡ b
    eq a b e = go (same_or_other a b)
      where
        go : (a ≡ b) ⊎ (a ≢ b) → a ≡ b
        go (inl s) = s
        go (inr ne) = absurd (bad (eq_false a b ne))
          where
            bad : (a == b) ≡ false → ⊥
            bad f = cc

pub held_more : (parents old new : List (List ℕ)) (types row : List ℕ) (t : ℕ) → HoldBelow parents old → t < length old → types ≡ row_at parents t → row ≡ row_at old t → IsRaised old new types row → HoldBelow parents new
held_more parents old new types row t s h types_is row_is r = record {
  own = λ b l. r.grows b b (omega (arith, l, r.size)) (s.own b (omega (arith, l, r.size)));
  sound = λ a b l e. go a b (omega (arith, l, r.size)) (r.only b a (omega (arith, l, r.size)) e);
}
  where
    go : (a b : ℕ) → b < length old → (has_bit (row_at old b) a ≡ true) ⊎ (Has b types × (has_bit row a ≡ true)) → IsAtOrBelow parents a b
    go a b l (inl e) = s.sound a b l e
    go a b l (inr e) = below_trans parents a t b (s.sound a t h (ap (λ q. has_bit q a) (sym row_is) ∙ e.1)) (above_parent t b b (subst (Has b) types_is e.0) (itself b))

pub parents_in : (n : ℕ) (vs : List (Vec ℕ Global)) → All (λ r. All (λ x. x < n) r.items) vs → (t p : ℕ) → Has p (slice_index_or (lists vs) t []) → p < n
parents_in n [] all t p h = elim h [ ]
parents_in n (v ∷ vs) all zero p h = Has-All n v.items (all 0 v (omega arith)) p h
parents_in n (v ∷ vs) all (suc t) p h = parents_in n vs (λ k d l. all (suc k) d (omega arith)) t p h

-- what a row has, all above have
carried : (parents rows : List (List ℕ)) → ((t p : ℕ) → Has p (row_at parents t) → p < length rows) → AreClosed parents rows →
    (a b x : ℕ) → IsAtOrBelow parents a b → a < length rows → has_bit (row_at rows a) x ≡ true → has_bit (row_at rows b) x ≡ true
carried parents rows range closed a _ x (itself _) h e = e
carried parents rows range closed a b x (above_parent _ p _ has r) h e = carried parents rows range closed p b x r (range a p has) (closed a h p x has e)

pub closed_holds : (parents rows : List (List ℕ)) → ((t p : ℕ) → Has p (row_at parents t) → p < length rows) → HoldBelow parents rows → AreClosed parents rows →
    (a b : ℕ) → a < length rows → b < length rows → (has_bit (row_at rows b) a ≡ true) ↔ IsAtOrBelow parents a b
closed_holds parents rows range s closed a b h k = (λ e. s.sound a b k e, λ i. carried parents rows range closed a b a i h (s.own a h))
