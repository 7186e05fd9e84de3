-- What is reached along parents can be told.
use Rattle.std.proofs.Common.{ℕ, zero, suc, ◌≡◌, ◌<◌, ◌≤◌, ◌+◌, ◌==◌, ◌||◌, ◌⊎◌, inl, inr, Bool, true, false, cond, not, List, [], ◌∷◌, ◌++◌, length, filter, slice_index_or, refl, sym, ◌∙◌, ap, subst, arith}
use Rattle.std.specs.List.{list_any}
use Rattle.type_hierarchy.specs.Order.{Has, here, there, IsAtOrBelow, itself, above_parent, IsBelow}
use Rattle.type_hierarchy.specs.Table.{has_member}
use Rattle.type_hierarchy.proofs.HierarchyLemmas.{below_trans}
use Rattle.type_hierarchy.proofs.SetLemmas.{eq_of, eq_true, or_left, or_right}
use Rattle.grammar_types.proofs.SettleLists.{bools, true_not_false}

abbrev row : List (List ℕ) → ℕ → List ℕ
row ps t = slice_index_or ps t []

-- elements and members
member_of : (x : ℕ) (xs : List ℕ) → Has x xs → has_member xs x ≡ true
member_of x _ (here {ys = ys}) = or_left (x == x) (has_member ys x) (eq_true x)
member_of x (y ∷ ys) (there h) = or_right (y == x) (has_member ys x) (member_of x ys h)

has_of : (xs : List ℕ) (x : ℕ) → has_member xs x ≡ true → Has x xs
has_of [] x e = absurd (true_not_false false e refl)
has_of (y ∷ ys) x e = go (bools (y == x)) (has_of ys x)
  where
    go : ((y == x) ≡ true) ⊎ ((y == x) ≡ false) → (has_member ys x ≡ true → Has x ys) → Has x (y ∷ ys)
    go (inl s) later = subst (λ z. Has x (z ∷ ys)) (sym (eq_of y x s)) here
    go (inr s) later = there (later (sym (ap (λ b. b || has_member ys x) s) ∙ e))

-- the elements of a list that aren't among those that are reached
abbrev left : List ℕ → List ℕ → List ℕ
left seen us = filter (λ u. not (has_member seen u)) us

fewer : (seen : List ℕ) (y : ℕ) (us : List ℕ) → length (left (y ∷ seen) us) ≤ length (left seen us)
fewer seen y [] = omega arith
fewer seen y (u ∷ us) = go (y == u) (has_member seen u) (fewer seen y us)
  where
    go : (a b : Bool) → length (left (y ∷ seen) us) ≤ length (left seen us) →
        length (cond (not (a || b)) (u ∷ left (y ∷ seen) us) (left (y ∷ seen) us)) ≤ length (cond (not b) (u ∷ left seen us) (left seen us))
    go true true h = h
    go true false h = omega (arith, h)
    go false true h = h
    go false false h = omega (arith, h)

one_fewer : (seen : List ℕ) (y : ℕ) (us : List ℕ) → Has y us → has_member seen y ≡ false → length (left (y ∷ seen) us) < length (left seen us)
one_fewer seen y _ (here {ys = us}) e = go (y == y) (has_member seen y) (eq_true y) e (fewer seen y us)
  where
    go : (a b : Bool) → a ≡ true → b ≡ false → length (left (y ∷ seen) us) ≤ length (left seen us) →
        length (cond (not (a || b)) (y ∷ left (y ∷ seen) us) (left (y ∷ seen) us)) < length (cond (not b) (y ∷ left seen us) (left seen us))
    go true false s t h = omega (arith, h)
    go true true s t h = true_not_false true refl t
    go false b s t h = true_not_false false s refl
one_fewer seen y (u ∷ us) (there h) e = go (y == u) (has_member seen u) (one_fewer seen y us h e)
  where
    go : (a b : Bool) → length (left (y ∷ seen) us) < length (left seen us) →
        length (cond (not (a || b)) (u ∷ left (y ∷ seen) us) (left (y ∷ seen) us)) < length (cond (not b) (u ∷ left seen us) (left seen us))
    go true true h = h
    go true false h = omega (arith, h)
    go false true h = h
    go false false h = omega (arith, h)

-- all elements of rows
abbrev every : List (List ℕ) → List ℕ
every [] = []
every (r ∷ rs) = r ++ every rs

has_front : (x : ℕ) (xs ys : List ℕ) → Has x xs → Has x (xs ++ ys)
has_front x _ ys here = here
has_front x _ ys (there h) = there (has_front x _ ys h)

has_back : (x : ℕ) (xs ys : List ℕ) → Has x ys → Has x (xs ++ ys)
has_back x [] ys h = h
has_back x (z ∷ xs) ys h = there (has_back x xs ys h)

has_every : (ps : List (List ℕ)) (t y : ℕ) → Has y (row ps t) → Has y (every ps)
has_every [] t y h = elim h [ ]
has_every (r ∷ rs) zero y h = has_front y r (every rs) h
has_every (r ∷ rs) (suc t) y h = has_back y r (every rs) (has_every rs t y h)

-- nodes that are all reached, and those from which a parent isn't
abbrev AreReached : List (List ℕ) → ℕ → List ℕ → Type 0
AreReached ps t seen = (u : ℕ) → Has u seen → IsAtOrBelow ps t u

abbrev IsClosed : List (List ℕ) → List ℕ → Type 0
IsClosed ps seen = (x y : ℕ) → Has x seen → Has y (row ps x) → has_member seen y ≡ true

-- a parent that isn't reached, or none
abbrev Open : List (List ℕ) → List ℕ → List ℕ → Type 0
Open ps seen xs = (x : ℕ) × (y : ℕ) × Has x xs × Has y (row ps x) × (has_member seen y ≡ false)

abbrev Shut : List (List ℕ) → List ℕ → List ℕ → Type 0
Shut ps seen xs = (x y : ℕ) → Has x xs → Has y (row ps x) → has_member seen y ≡ true

among_row : (seen ys : List ℕ) → ((y : ℕ) × Has y ys × (has_member seen y ≡ false)) ⊎ ((y : ℕ) → Has y ys → has_member seen y ≡ true)
among_row seen [] = inr (λ y h. elim h [ ])
among_row seen (z ∷ ys) = go (bools (has_member seen z)) (among_row seen ys)
  where
    go : (has_member seen z ≡ true) ⊎ (has_member seen z ≡ false) → ((y : ℕ) × Has y ys × (has_member seen y ≡ false)) ⊎ ((y : ℕ) → Has y ys → has_member seen y ≡ true)
        → ((y : ℕ) × Has y (z ∷ ys) × (has_member seen y ≡ false)) ⊎ ((y : ℕ) → Has y (z ∷ ys) → has_member seen y ≡ true)
    go (inr e) r = inl (z, here, e)
    go (inl e) (inl r) = inl (r.0, there r.1, r.2)
    go (inl e) (inr all) = inr each
      where
        each : (y : ℕ) → Has y (z ∷ ys) → has_member seen y ≡ true
        each _ here = e
        each y (there h) = all y h

open_or_shut : (ps : List (List ℕ)) (seen xs : List ℕ) → Open ps seen xs ⊎ Shut ps seen xs
open_or_shut ps seen [] = inr (λ x y h. elim h [ ])
open_or_shut ps seen (z ∷ xs) = go (among_row seen (row ps z)) (open_or_shut ps seen xs)
  where
    go : ((y : ℕ) × Has y (row ps z) × (has_member seen y ≡ false)) ⊎ ((y : ℕ) → Has y (row ps z) → has_member seen y ≡ true) → Open ps seen xs ⊎ Shut ps seen xs
        → Open ps seen (z ∷ xs) ⊎ Shut ps seen (z ∷ xs)
    go (inl r) o = inl (z, r.0, here, r.1, r.2)
    go (inr all) (inl o) = inl (o.0, o.1, there o.2, o.3, o.4)
    go (inr all) (inr s) = inr each
      where
        each : (x y : ℕ) → Has x (z ∷ xs) → Has y (row ps x) → has_member seen y ≡ true
        each _ y here k = all y k
        each x y (there h) k = s x y h k

-- all that is at or above a node
pub record Reached (ps : List (List ℕ)) (t : ℕ) : Type 0 where
  pub seen : List ℕ
  pub reached : AreReached ps t seen
  pub closed : IsClosed ps seen
  pub own : Has t seen

reached_more : (ps : List (List ℕ)) (t : ℕ) (seen : List ℕ) (x y : ℕ) → AreReached ps t seen → Has x seen → Has y (row ps x) → AreReached ps t (y ∷ seen)
reached_more ps t seen x y reached h k _ here = below_trans ps t x y (reached x h) (above_parent x y y k (itself y))
reached_more ps t seen x y reached h k u (there m) = reached u m

less : (ps : List (List ℕ)) (seen : List ℕ) (o : Open ps seen seen) → length (left (o.1 ∷ seen) (every ps)) < length (left seen (every ps))
less ps seen o = one_fewer seen o.1 (every ps) (has_every ps o.0 o.1 o.3) o.4

grow : (ps : List (List ℕ)) (t n : ℕ) (seen : List ℕ) → length (left seen (every ps)) ≤ n → AreReached ps t seen → Has t seen → Reached ps t
grow ps t zero seen room reached own = go (open_or_shut ps seen seen)
  where
    go : Open ps seen seen ⊎ Shut ps seen seen → Reached ps t
    go (inr shut) = record { seen = seen; reached = reached; closed = shut; own = own }
    go (inl o) = absurd (omega (arith, room, less ps seen o))
grow ps t (suc m) seen room reached own = go (open_or_shut ps seen seen) (grow ps t m)
  where
    go : Open ps seen seen ⊎ Shut ps seen seen → ((s : List ℕ) → length (left s (every ps)) ≤ m → AreReached ps t s → Has t s → Reached ps t) → Reached ps t
    go (inr shut) later = record { seen = seen; reached = reached; closed = shut; own = own }
    go (inl o) later = later (o.1 ∷ seen) (omega (arith, room, less ps seen o)) (reached_more ps t seen o.0 o.1 reached o.2 o.3) (there own)

only : (ps : List (List ℕ)) (t u : ℕ) → Has u (t ∷ []) → IsAtOrBelow ps t u
only ps t _ here = itself t
only ps t u (there h) = elim h [ ]

pub reach : (ps : List (List ℕ)) (t : ℕ) → Reached ps t
reach ps t = grow ps t (length (left (t ∷ []) (every ps))) (t ∷ []) (omega arith) (only ps t) here

stays : (ps : List (List ℕ)) (seen : List ℕ) (x u : ℕ) → IsClosed ps seen → Has x seen → IsAtOrBelow ps x u → Has u seen
stays ps seen x _ closed h (itself _) = h
stays ps seen x u closed h (above_parent _ p _ k r) = stays ps seen p u closed (has_of seen p (closed x p h k)) r

-- whether a node is at or above another
abbrev pub is_reached : List (List ℕ) → ℕ → ℕ → Bool
is_reached ps t u = has_member (reach ps t).seen u

pub reached_so : (ps : List (List ℕ)) (t u : ℕ) → is_reached ps t u ≡ true → IsAtOrBelow ps t u
reached_so ps t u e = (reach ps t).reached u (has_of (reach ps t).seen u e)

pub so_reached : (ps : List (List ℕ)) (t u : ℕ) → IsAtOrBelow ps t u → is_reached ps t u ≡ true
so_reached ps t u b = member_of u (reach ps t).seen (stays ps (reach ps t).seen t u (reach ps t).closed (reach ps t).own b)

reached_told : (ps : List (List ℕ)) (t u : ℕ) → IsAtOrBelow ps t u ⊎ (IsAtOrBelow ps t u → ⊥)
reached_told ps t u = go (bools (is_reached ps t u))
  where
    go : (is_reached ps t u ≡ true) ⊎ (is_reached ps t u ≡ false) → IsAtOrBelow ps t u ⊎ (IsAtOrBelow ps t u → ⊥)
    go (inl e) = inl (reached_so ps t u e)
    go (inr e) = inr (λ b. true_not_false (is_reached ps t u) (so_reached ps t u b) e)

no_element : (x : ℕ) → Has x [] → ⊥
no_element x h = elim h [ ]

-- one of these is at or below the node
abbrev SomeBelow : List (List ℕ) → ℕ → List ℕ → Type 0
SomeBelow ps t xs = (p : ℕ) × Has p xs × IsAtOrBelow ps p t

-- whether a node is below itself
cyclic_among : (ps : List (List ℕ)) (t : ℕ) (xs : List ℕ) → SomeBelow ps t xs ⊎ (SomeBelow ps t xs → ⊥)
cyclic_among ps t [] = inr (λ r. no_element r.0 r.1)
cyclic_among ps t (z ∷ xs) = go (reached_told ps z t) (cyclic_among ps t xs)
  where
    go : IsAtOrBelow ps z t ⊎ (IsAtOrBelow ps z t → ⊥) → SomeBelow ps t xs ⊎ (SomeBelow ps t xs → ⊥)
        → SomeBelow ps t (z ∷ xs) ⊎ (SomeBelow ps t (z ∷ xs) → ⊥)
    go (inl b) r = inl (z, here, b)
    go (inr isnt) (inl r) = inl (r.0, there r.1, r.2)
    go (inr isnt) (inr none) = inr (λ r. each r.0 r.1 r.2)
      where
        each : (p : ℕ) → Has p (z ∷ xs) → IsAtOrBelow ps p t → ⊥
        each _ here b = isnt b
        each p (there h) b = none (p, h, b)

pub cyclic_told : (ps : List (List ℕ)) (t : ℕ) → IsBelow ps t t ⊎ (IsBelow ps t t → ⊥)
cyclic_told ps t = cyclic_among ps t (row ps t)
