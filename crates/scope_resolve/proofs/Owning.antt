-- The table of the labels of holes, and the numbers that are marked.
use Rattle.std.proofs.Common.{ℕ, zero, suc, ◌≡◌, ◌≢◌, ◌<◌, ◌≤◌, ◌+◌, ◌⊎◌, inl, inr, ◌∙◌, Bool, true, false, List, [], ◌∷◌, ◌++◌, map, length, get_or, take, set, replicate, slice_index, refl, sym, ap, subst, arith}
use Rattle.std.specs.Prelude.{Contains, ◌↔◌}
use Rattle.std.proofs.lemmas.List.{get_or-set_same, get_or-set_other}
use Rattle.std.proofs.lemmas.List.Elements.{Contains-append_left, Contains-append_cases}
use Rattle.scope_model.specs.declared.Opening.{Opening}
use Rattle.scope_model.specs.declared.Quantifier.{Quantifier}
use Rattle.scope_model.specs.Readings.{Rise}
use Rattle.scope_model.specs.States.{AreApart}
use Rattle.scope_model.proofs.Lists.{In, in_of, contains_of, in_right}
use Rattle.scope_resolve.proofs.Rows.{next, last_map}
use Rattle.scope_resolve.proofs.Roles.{read_past}
use Rattle.scope_resolve.proofs.Each.{each_more}
use Rattle.scope_resolve.proofs.Tabling.{marks_first, mark_on, rise_more}

abbrev pub hole_of : Opening → ℕ
hole_of o = o.hole

abbrev pub body_of : Quantifier → ℕ
body_of q = q.body

-- these are the holes of openings
abbrev pub AreSeen : List Bool → List Opening → Type 0
AreSeen seen os = (h : ℕ) → (get_or seen h false ≡ true) ↔ Contains (map hole_of os) h

-- each hole of some openings has its label
abbrev pub AreOwned : List ℕ → List Opening → Type 0
AreOwned owner os = (o : Opening) → Contains os o → slice_index owner o.hole ≡ o.label

holes_next : (os : List Opening) (k : ℕ) (o : Opening) → k < length os → o ≡ get_or os k o → map hole_of (take (k + 1) os) ≡ map hole_of (take k os) ++ o.hole ∷ []
holes_next os k o l e = ap (map hole_of) (next os k o l e) ∙ last_map hole_of (take k os) o

in_holes : (os : List Opening) (o : Opening) → In o os → In o.hole (map hole_of os)
in_holes [] o i = absurd i
in_holes (x ∷ os) o (inl e) = inl (ap hole_of e)
in_holes (x ∷ os) o (inr i) = inr (in_holes os o i)

-- before the first opening
pub seen_first : (n : ℕ) (os : List Opening) → AreSeen (replicate n false) (take 0 os)
seen_first n [] = marks_first n []
seen_first n (o ∷ os) = marks_first n []

pub owned_first : (owner : List ℕ) (os : List Opening) → AreOwned owner (take 0 os)
owned_first owner [] o c = absurd (in_of [] o c)
owned_first owner (x ∷ os) o c = absurd (in_of [] o c)

pub apart_first : (os : List Opening) → AreApart (take 0 os)
apart_first [] = tt
apart_first (o ∷ os) = tt

-- a table that has room for the holes
pub room_for : (hs : List ℕ) (os : List Opening) (room : ℕ) → hs ≡ map hole_of os → ((v : ℕ) → Contains hs v → v < room) → (o : Opening) → Contains os o → o.hole < room
room_for hs os room e each o c = each o.hole (subst (λ l. Contains l o.hole) (sym e) (contains_of (map hole_of os) o.hole (in_holes os o (in_of os o c))))

module _ (seen : List Bool) (owner : List ℕ) (os : List Opening) (k : ℕ) (o : Opening) (l : k < length os) (e : o ≡ get_or os k o) (known : AreSeen seen (take k os)) where
  pub seen_more : o.hole < length seen → AreSeen (set seen o.hole true) (take (k + 1) os)
  seen_more lt = subst (λ hs. (h : ℕ) → (get_or (set seen o.hole true) h false ≡ true) ↔ Contains hs h) (sym (holes_next os k o l e)) (mark_on seen (map hole_of (take k os)) o.hole lt known)

  pub owned_more : o.hole < length owner → get_or seen o.hole false ≡ false → AreOwned owner (take k os) → AreOwned (set owner o.hole o.label) (take (k + 1) os)
  owned_more lt new owned = each_more (λ (x : Opening). slice_index (set owner o.hole o.label) x.hole ≡ x.label) os k o l e before (get_or-set_same owner o.hole o.label 0 lt)
    where
      before : (x : Opening) → Contains (take k os) x → slice_index (set owner o.hole o.label) x.hole ≡ x.label
      before x c = get_or-set_other owner o.hole x.hole o.label 0 other ∙ owned x c
        where
          other : x.hole ≢ o.hole
          other d =
              let y : get_or seen o.hole false ≡ true = (known o.hole).1 (subst (Contains (map hole_of (take k os))) d (contains_of (map hole_of (take k os)) x.hole (in_holes (take k os) x (in_of (take k os) x c)))) in
              let z : true ≡ false = sym y ∙ new in
              absurd (cc)

-- the marked numbers below k
pub record AreMarked (ms : List Bool) (k : ℕ) (xs : List ℕ) : Type 0 where
  pub rise : Rise xs
  pub has : (v : ℕ) → Contains xs v ↔ ((get_or ms v false ≡ true) × (v < k))

below_next : (k v : ℕ) → v < k + 1 → (v < k) ⊎ (v ≡ k)
below_next zero zero l = inr refl
below_next zero (suc v) l = absurd (omega (arith, l))
below_next (suc k) zero l = inl (omega arith)
below_next (suc k) (suc v) l = elim (below_next k v (omega (arith, l))) [ inl m ↦ inl (omega (arith, m)) | inr e ↦ inr (ap suc e) ]

module _ (ms : List Bool) (k : ℕ) (xs : List ℕ) (a : AreMarked ms k xs) where
  one_on : get_or ms k false ≡ true → AreMarked ms (k + 1) (xs ++ k ∷ [])
  one_on y = record {
    rise = rise_more xs k a.rise (λ w c. ((a.has w).0 c).1);
    has = λ v. (λ c. to v (Contains-append_cases xs (k ∷ []) v c), λ m. back v m.0 (below_next k v m.1));
  }
    where
      to : (v : ℕ) → Contains xs v ⊎ Contains (k ∷ []) v → (get_or ms v false ≡ true) × (v < k + 1)
      to v (inl c) = let m = (a.has v).0 c in let l = m.1 in (m.0, omega (arith, l))
      to v (inr c) = by_only (in_of (k ∷ []) v c)
        where
          by_only : In v (k ∷ []) → (get_or ms v false ≡ true) × (v < k + 1)
          by_only (inl e) = (ap (λ n. get_or ms n false) e ∙ y, omega (arith, e))
          by_only (inr j) = absurd j

      back : (v : ℕ) → get_or ms v false ≡ true → (v < k) ⊎ (v ≡ k) → Contains (xs ++ k ∷ []) v
      back v m (inl l) = Contains-append_left xs (k ∷ []) v ((a.has v).1 (m, l))
      back v m (inr e) = contains_of (xs ++ k ∷ []) v (in_right v xs (k ∷ []) (inl e))

  none_on : get_or ms k false ≡ false → AreMarked ms (k + 1) xs
  none_on n = record {
    rise = a.rise;
    has = λ v. (λ c. (let m = (a.has v).0 c in let l = m.1 in (m.0, omega (arith, l))), λ m. back v m.0 (below_next k v m.1));
  }
    where
      back : (v : ℕ) → get_or ms v false ≡ true → (v < k) ⊎ (v ≡ k) → Contains xs v
      back v m (inl l) = (a.has v).1 (m, l)
      back v m (inr e) = let z : true ≡ false = sym m ∙ (ap (λ n. get_or ms n false) e ∙ n) in absurd (cc)

  pub marked_on : (b : Bool) (new : List ℕ) → b ≡ get_or ms k false → (b ≡ true → new ≡ xs ++ k ∷ []) → (b ≡ false → new ≡ xs) → AreMarked ms (k + 1) new
  marked_on true new e came kept = subst (AreMarked ms (k + 1)) (sym (came refl)) (one_on (sym e))
  marked_on false new e came kept = subst (AreMarked ms (k + 1)) (sym (kept refl)) (none_on (sym e))

  pub marked_end : length ms ≤ k → (v : ℕ) → Contains xs v ↔ (get_or ms v false ≡ true)
  marked_end l v = (λ c. ((a.has v).0 c).0, λ m. (a.has v).1 (m, below m))
    where
      below : get_or ms v false ≡ true → v < k
      below m = by_place (lower v k)
        where
          lower : (a b : ℕ) → (a < b) ⊎ (b ≤ a)
          lower zero zero = inr (omega arith)
          lower zero (suc b) = inl (omega arith)
          lower (suc a) zero = inr (omega arith)
          lower (suc a) (suc b) = elim (lower a b) [ inl r ↦ inl (omega (arith, r)) | inr r ↦ inr (omega (arith, r)) ]

          by_place : (v < k) ⊎ (k ≤ v) → v < k
          by_place (inl r) = r
          by_place (inr r) = let z : true ≡ false = sym m ∙ read_past ms v false (omega (arith, r, l)) in absurd (cc)

pub marked_first : (ms : List Bool) → AreMarked ms 0 []
marked_first ms = record { rise = λ k l. absurd (omega (arith, l)); has = λ v. (λ c. absurd (in_of [] v c), λ m. (let l = m.1 in absurd (omega (arith, l)))) }

-- a number above all so far
pub room_more : (xs : List ℕ) (k x old new : ℕ) → k < length xs → x ≡ get_or xs k x → ((v : ℕ) → Contains (take k xs) v → v < old) → old ≤ new → x < new → (v : ℕ) → Contains (take (k + 1) xs) v → v < new
room_more xs k x old new l e each le lt = each_more (λ v. v < new) xs k x l e (λ v c. (let a = each v c in omega (arith, a, le))) lt

pub read_any : {A : Type 0} (xs : List A) (k : ℕ) (d e : A) → k < length xs → get_or xs k d ≡ get_or xs k e
read_any [] k d e l = absurd (omega (arith, l))
read_any (x ∷ xs) zero d e l = refl
read_any (x ∷ xs) (suc k) d e l = read_any xs k d e (omega (arith, l))

pub read_zero : (xs : List ℕ) (k x : ℕ) → k < length xs → x ≡ get_or xs k x → x ≡ get_or xs k 0
read_zero xs k x l e = e ∙ read_any xs k x 0 l

-- the opening at a place
abbrev pub opening_at : List Opening → ℕ → Opening
opening_at os k = get_or os k (record { label = 0; hole = 0 })

pub opening_is : (os : List Opening) (k : ℕ) → k < length os → opening_at os k ≡ get_or os k (opening_at os k)
opening_is os k l = read_any os k (record { label = 0; hole = 0 }) (opening_at os k) l

-- what a table says that is read by another name
pub seen_as : (ms seen : List Bool) (h : ℕ) (b r : Bool) → ms ≡ seen → r ≡ get_or ms h false → r ≡ b → get_or seen h false ≡ b
seen_as ms seen h b r e is y = sym (ap (λ (bs : List Bool). get_or bs h false) e) ∙ (sym is ∙ y)
