-- Slots stay right where pairs come and go.
use Rattle.std.proofs.Common.{◌≡◌, ◌≢◌, ℕ, ◌+◌, ◌<◌, ◌≤◌, List, [], ◌∷◌, ◌++◌, length, take, zero, suc, get_or, set, refl, ap, sym, subst, arith, slice_index, length-take, get_or-set_other, get_or-set_same, below_more, ◌∙◌}
use Rattle.std.proofs.Math.ListN.{get_or-append}
use Rattle.std.proofs.Math.Seq.{get_or-append_seam}
use Rattle.std.proofs.lemmas.Grind.{common_steps}
use Rattle.mrs_model.specs.declared.bindings.Pair.{Pair}
use Rattle.mrs_model.specs.Renaming.{IsOneToOne}
use Rattle.mrs_model.specs.Inner.Bindings.{lefts, rights, Binds, Agrees, AreSlots, Bound}

-- one side, as lists of numbers
abbrev pub At : List ℕ → List ℕ → ℕ → Type 0
At xs from i = get_or from (get_or xs i 0) 0 ≡ i

slot_push : (xs from : List ℕ) (x : ℕ) → x < length from → ((i : ℕ) → i < length xs → At xs from i) → ((i : ℕ) → i < length xs → get_or xs i 0 ≡ x → ⊥)
    → (i : ℕ) → i < length xs + 1 → At (xs ++ x ∷ []) (set from x (length xs)) i
slot_push xs from x lt at free =
    below_more (λ i. At (xs ++ x ∷ []) (set from x (length xs)) i) (length xs)
    (λ k h. let e = get_or-append xs (x ∷ []) 0 k h in
    let ne : get_or xs k 0 ≢ x = free k h in
    rw (e, get_or-set_other) (at k h))
    (rw (get_or-append_seam xs x [] 0, get_or-set_same) refl)

within_push : (xs : List ℕ) (x n : ℕ) → x < n → ((i : ℕ) → i < length xs → get_or xs i 0 < n) → (i : ℕ) → i < length xs + 1 → get_or (xs ++ x ∷ []) i 0 < n
within_push xs x n lt in' =
    below_more (λ i. get_or (xs ++ x ∷ []) i 0 < n) (length xs) (λ k h. rw (get_or-append xs (x ∷ []) 0 k h) (in' k h)) (rw (get_or-append_seam xs x [] 0) lt)

pub lefts_front : (pairs : List Pair) (n i : ℕ) → i < n → get_or (lefts (take n pairs)) i 0 ≡ get_or (lefts pairs) i 0
lefts_front [] zero i h = refl
lefts_front [] (suc n) i h = refl
lefts_front (p ∷ ps) zero i h = absurd (omega arith)
lefts_front (p ∷ ps) (suc n) zero h = refl
lefts_front (p ∷ ps) (suc n) (suc i) h = lefts_front ps n i (omega arith)

pub rights_front : (pairs : List Pair) (n i : ℕ) → i < n → get_or (rights (take n pairs)) i 0 ≡ get_or (rights pairs) i 0
rights_front [] zero i h = refl
rights_front [] (suc n) i h = refl
rights_front (p ∷ ps) zero i h = absurd (omega arith)
rights_front (p ∷ ps) (suc n) zero h = refl
rights_front (p ∷ ps) (suc n) (suc i) h = rights_front ps n i (omega arith)

in_front : (pairs : List Pair) (n i : ℕ) → n ≤ length pairs → i < length (take n pairs) → (i < n) × (i < length pairs)
in_front pairs n i le h = (omega (arith, length-take n pairs), omega (arith, length-take n pairs))

pub slots_front : (pairs : List Pair) (from onto : List ℕ) (n : ℕ) → n ≤ length pairs → AreSlots pairs from onto → AreSlots (take n pairs) from onto
slots_front pairs from onto n le s = record {
  even = s.even;
  left_in = λ i h. let w = in_front pairs n i le h in rw (lefts_front pairs n i w.0) (s.left_in i w.1);
  right_in = λ i h. let w = in_front pairs n i le h in rw (rights_front pairs n i w.0) (s.right_in i w.1);
  left_at = λ i h. let w = in_front pairs n i le h in rw (lefts_front pairs n i w.0) (s.left_at i w.1);
  right_at = λ i h. let w = in_front pairs n i le h in rw (rights_front pairs n i w.0) (s.right_at i w.1);
}

pub lefts_push : (pairs : List Pair) (x y : ℕ) → lefts (pairs ++ record { left = x; right = y } ∷ []) ≡ lefts pairs ++ x ∷ []
lefts_push [] x y = refl
lefts_push (p ∷ ps) x y = ap (λ l. p.left ∷ l) (lefts_push ps x y)

pub rights_push : (pairs : List Pair) (x y : ℕ) → rights (pairs ++ record { left = x; right = y } ∷ []) ≡ rights pairs ++ y ∷ []
rights_push [] x y = refl
rights_push (p ∷ ps) x y = ap (λ l. p.right ∷ l) (rights_push ps x y)

pub length_lefts : (pairs : List Pair) → length (lefts pairs) ≡ length pairs
length_lefts [] = refl
length_lefts (p ∷ ps) = omega (arith, length_lefts ps)

pub length_rights : (pairs : List Pair) → length (rights pairs) ≡ length pairs
length_rights [] = refl
length_rights (p ∷ ps) = omega (arith, length_rights ps)

pub slots_push : (pairs : List Pair) (from onto : List ℕ) (x y : ℕ) → AreSlots pairs from onto → x < length from → y < length from
    → ((w : ℕ) → Binds pairs x w → ⊥) → ((v : ℕ) → Binds pairs v y → ⊥)
    → AreSlots (pairs ++ record { left = x; right = y } ∷ []) (set from x (length pairs)) (set onto y (length pairs))
slots_push pairs from onto x y s hx hy nx ny =
    let ll = length_lefts pairs in
    let lr = length_rights pairs in
    let hy' : y < length onto = omega (arith, s.even) in
    record {
      even = grind (arith, common_steps, s.even);
      left_in = λ i h. rw (lefts_push pairs x y) (grind (arith, common_steps, within_push (lefts pairs) x (length from) hx (λ k l. s.left_in k (omega arith)) i (grind (arith, common_steps))));
      right_in = λ i h. rw (rights_push pairs x y) (grind (arith, common_steps, within_push (rights pairs) y (length from) hy (λ k l. s.right_in k (omega arith)) i (grind (arith, common_steps))));
      left_at = λ i h. rw (lefts_push pairs x y, ← ll) (slot_push (lefts pairs) from x hx (λ k l. s.left_at k (omega arith)) (λ k l e. nx _ (k, omega arith, e, refl)) i (grind (arith, common_steps)));
      right_at = λ i h. rw (rights_push pairs x y, ← lr) (slot_push (rights pairs) onto y hy' (λ k l. s.right_at k (omega arith)) (λ k l e. ny _ (k, omega arith, refl, e)) i (grind (arith, common_steps)));
    }

-- who has all pairs, and more, does not take two variables to one
pub clashes : (to : List ℕ) (pairs : List Pair) (v x y : ℕ) → IsOneToOne to → Agrees to pairs → v < length to → x < length to → Binds pairs v y → v ≢ x → slice_index to x ≡ y → ⊥
clashes to pairs v x y one agrees hv hx (i, l, e, f) ne g = ne (one v x hv hx (rw (← e) (agrees i l ∙ f ∙ sym g)))

-- the same where the pairs are seen from outside
pub slots_front_of : (b : Bound) (pairs : List Pair) (from onto : List ℕ) (n : ℕ) → record { pairs = pairs; size = length from } ≡ b → n ≤ length b.pairs → AreSlots pairs from onto → AreSlots (take n pairs) from onto
slots_front_of b pairs from onto n e le s = slots_front pairs from onto n (rw (← e) at le) s

pub slots_push_of : (b : Bound) (pairs : List Pair) (from onto : List ℕ) (x y n : ℕ) → n ≡ length pairs → record { pairs = pairs; size = length from } ≡ b → AreSlots pairs from onto → x < b.size → y < b.size
    → ((w : ℕ) → Binds b.pairs x w → ⊥) → ((v : ℕ) → Binds b.pairs v y → ⊥)
    → AreSlots (pairs ++ record { left = x; right = y } ∷ []) (set from x n) (set onto y n)
slots_push_of b pairs from onto x y n k e s hx hy nx ny = rw k (slots_push pairs from onto x y s (rw (← e) at hx) (rw (← e) at hy) (rw (← e) at nx) (rw (← e) at ny))

pub clashes_of : (to : List ℕ) (b : Bound) (pairs : List Pair) (from onto : List ℕ) (v x y : ℕ) → record { pairs = pairs; size = length from } ≡ b → AreSlots pairs from onto
    → b.size ≤ length to → IsOneToOne to → Agrees to b.pairs → x < b.size → Binds b.pairs v y → ((w : ℕ) → Binds b.pairs x w → ⊥) → slice_index to x ≡ y → ⊥
clashes_of to b pairs from onto v x y e s le one agrees hx (i, l, p, q) free g =
    clashes to b.pairs v x y one agrees
    (subst (λ (z : ℕ). z < length to) p (let h : i < length pairs = rw (← e) at l in let k = s.left_in i h in let le' = rw (← e) at le in subst (λ (d : Bound). get_or (lefts d.pairs) i 0 < length to) e (omega (arith, k, le'))))
    (omega arith) (i, l, p, q) (λ e'. free y (subst (λ (z : ℕ). Binds b.pairs z y) e' (i, l, p, q))) g

-- one more variable of a map
pub map_more : (pairs : List Pair) (to : List ℕ) (x y : ℕ) → length to ≡ x → ((j : ℕ) → j < x → Binds pairs j (get_or to j 0)) → Binds pairs x y → (j : ℕ) → j < x + 1 → Binds pairs j (get_or (to ++ y ∷ []) j 0)
map_more pairs to x y n each this =
    below_more (λ j. Binds pairs j (get_or (to ++ y ∷ []) j 0)) x
    (λ k h. let l : k < length to = omega arith in let e = get_or-append to (y ∷ []) 0 k l in subst (λ (z : ℕ). Binds pairs k z) (sym e) (each k h))
    (let e : get_or (to ++ y ∷ []) x 0 ≡ y = subst (λ (k : ℕ). get_or (to ++ y ∷ []) k 0 ≡ y) n (get_or-append_seam to y [] 0) in subst (λ (z : ℕ). Binds pairs x z) (sym e) this)
