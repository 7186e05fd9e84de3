-- Bags as one-to-one maps of places.
use Rattle.std.proofs.Common.{◌≡◌, ◌≢◌, ℕ, zero, suc, ◌+◌, ◌-◌, ◌≤◌, ◌<◌, ◌∙◌, ◌⊎◌, inl, inr, List, [], ◌∷◌, ◌++◌, append_assoc, length, get_or, set, refl, ap, sym, subst, arith}
use Rattle.std.specs.List.{swap, remove, flat_map, Any}
use Rattle.std.specs.List.Sorted.{IsPermutation}
use Rattle.std.proofs.lemmas.List.{get_or-set_same, get_or-set_other, length-set}
use Rattle.std.proofs.lemmas.List.Edits.{swap_is, length-swap, length-remove, get_or-remove_below, get_or-remove_above}
use Rattle.std.proofs.lemmas.List.Sorted.{IsPermutation-keeps, IsPermutation-refl, IsPermutation-cons, IsPermutation-trans, IsPermutation-sym, IsPermutation-remove, IsPermutation-append_left, IsPermutation-append_right, IsPermutation-append_comm}
use Rattle.mrs_model.proofs.Searching.{same_or_other}

-- each element has a place of its own in the other list, at which it stands
pub record Placed {X : Type 0} (d : X) (xs ys : List X) : Type 0 where
  pub even : length ys ≡ length xs
  pub place : ℕ → ℕ
  pub within : (k : ℕ) → k < length xs → place k < length ys
  pub apart : (j k : ℕ) → j < length xs → k < length xs → place j ≡ place k → j ≡ k
  pub same : (k : ℕ) → k < length xs → get_or ys (place k) d ≡ get_or xs k d

-- where a place goes when two are exchanged
abbrev flip_by : (i j m : ℕ) → (m ≡ i) ⊎ (m ≢ i) → (m ≡ j) ⊎ (m ≢ j) → ℕ
flip_by i j m (inl e) q = j
flip_by i j m (inr n) (inl e) = i
flip_by i j m (inr n) (inr k) = m

abbrev flip : ℕ → ℕ → ℕ → ℕ
flip i j m = flip_by i j m (same_or_other m i) (same_or_other m j)

flip_in : (n i j m : ℕ) (p : (m ≡ i) ⊎ (m ≢ i)) (q : (m ≡ j) ⊎ (m ≢ j)) → i < n → j < n → m < n → flip_by i j m p q < n
flip_in n i j m (inl e) q hi hj hm = hj
flip_in n i j m (inr k) (inl e) hi hj hm = hi
flip_in n i j m (inr k) (inr l) hi hj hm = hm

flip_one : (i j m n : ℕ) (p : (m ≡ i) ⊎ (m ≢ i)) (q : (m ≡ j) ⊎ (m ≢ j)) (r : (n ≡ i) ⊎ (n ≢ i)) (s : (n ≡ j) ⊎ (n ≢ j)) → flip_by i j m p q ≡ flip_by i j n r s → m ≡ n
flip_one i j m n (inl a) q (inl b) s f = a ∙ sym b
flip_one i j m n (inl a) q (inr b) (inl c) f = absurd (b (c ∙ f))
flip_one i j m n (inl a) q (inr b) (inr c) f = absurd (c (sym f))
flip_one i j m n (inr a) (inl b) (inl c) s f = absurd (a (b ∙ sym f))
flip_one i j m n (inr a) (inl b) (inr c) (inl d) f = b ∙ sym d
flip_one i j m n (inr a) (inl b) (inr c) (inr d) f = absurd (c (sym f))
flip_one i j m n (inr a) (inr b) (inl c) s f = absurd (b f)
flip_one i j m n (inr a) (inr b) (inr c) (inl d) f = absurd (a f)
flip_one i j m n (inr a) (inr b) (inr c) (inr d) f = f

flip_get : {X : Type 0} (d : X) (l : List X) (i j m : ℕ) (p : (m ≡ i) ⊎ (m ≢ i)) (q : (m ≡ j) ⊎ (m ≢ j)) → i < length l → j < length l
    → get_or (set (set l i (get_or l j d)) j (get_or l i d)) (flip_by i j m p q) d ≡ get_or l m d
flip_get d l i j m (inl e) q hi hj =
    get_or-set_same (set l i (get_or l j d)) j (get_or l i d) d (omega (arith, length-set l i (get_or l j d))) ∙ ap (λ (k : ℕ). get_or l k d) (sym e)
flip_get d l i j m (inr n) (inl e) hi hj =
    get_or-set_other (set l i (get_or l j d)) j i (get_or l i d) d (λ f. n (e ∙ sym f)) ∙ get_or-set_same l i (get_or l j d) d hi ∙ ap (λ (k : ℕ). get_or l k d) (sym e)
flip_get d l i j m (inr n) (inr k) hi hj =
    get_or-set_other (set l i (get_or l j d)) j m (get_or l i d) d k ∙ get_or-set_other l i m (get_or l j d) d n

placed_start : {X : Type 0} (d : X) (xs : List X) → Placed d xs xs
placed_start d xs = record { even = refl; place = λ k. k; within = λ k l. l; apart = λ j k a b e. e; same = λ k l. refl }

placed_step : {X : Type 0} (d : X) (xs l : List X) (i j : ℕ) → i < length l → j < length l → Placed d xs l → Placed d xs (swap l i j)
placed_step d xs l i j hi hj p = record {
  even = length-swap l i j ∙ p.even;
  place = λ k. flip i j (p.place k);
  within = λ k h. let m = p.place k in let w = p.within k h in let f = flip_in (length l) i j m (same_or_other m i) (same_or_other m j) hi hj w in rw (length-swap l i j) f;
  apart = λ a b ha hb e. p.apart a b ha hb (flip_one i j (p.place a) (p.place b) (same_or_other (p.place a) i) (same_or_other (p.place a) j) (same_or_other (p.place b) i) (same_or_other (p.place b) j) e);
  same = λ k h. let m = p.place k in
      rw (← swap_is l i j d hi hj) (flip_get d l i j m (same_or_other m i) (same_or_other m j) hi hj ∙ p.same k h);
}

-- the same bag: each element has a place
pub placed_of : {X : Type 0} (d : X) (xs ys : List X) → IsPermutation xs ys → Placed d xs ys
placed_of d xs ys h = IsPermutation-keeps xs (λ l. Placed d xs l) (placed_start d xs) (λ l i j hi hj p. placed_step d xs l i j hi hj p) ys h

below_or : (q p : ℕ) → (q < p) ⊎ (p ≤ q)
below_or zero zero = inr (omega arith)
below_or zero (suc p) = inl (omega arith)
below_or (suc q) zero = inr (omega arith)
below_or (suc q) (suc p) = elim (below_or q p) [ inl h ↦ inl (omega arith) | inr h ↦ inr (omega arith) ]

-- where a place goes when the one at p is taken out
abbrev less_by : (p q : ℕ) → (q < p) ⊎ (p ≤ q) → ℕ
less_by p q (inl h) = q
less_by p q (inr h) = q - 1

less_get : {X : Type 0} (d : X) (ys : List X) (p q : ℕ) (t : (q < p) ⊎ (p ≤ q)) → q ≢ p → p < length ys → get_or (remove ys p) (less_by p q t) d ≡ get_or ys q d
less_get d ys p q (inl h) ne lt = get_or-remove_below ys p d q h lt
less_get d ys p q (inr h) ne lt = let e : q - 1 + 1 ≡ q = omega arith in get_or-remove_above ys p d (q - 1) (omega arith) lt ∙ ap (λ (k : ℕ). get_or ys k d) e

less_in : {X : Type 0} (ys : List X) (p q : ℕ) (t : (q < p) ⊎ (p ≤ q)) → q ≢ p → p < length ys → q < length ys → less_by p q t < length (remove ys p)
less_in ys p q (inl h) ne lt in' = let n = length-remove ys p lt in omega (arith, n)
less_in ys p q (inr h) ne lt in' = let n = length-remove ys p lt in omega (arith, n)

less_one : (p q r : ℕ) (t : (q < p) ⊎ (p ≤ q)) (u : (r < p) ⊎ (p ≤ r)) → q ≢ p → r ≢ p → less_by p q t ≡ less_by p r u → q ≡ r
less_one p q r (inl h) (inl k) nq nr e = e
less_one p q r (inl h) (inr k) nq nr e = omega (arith, e, nr)
less_one p q r (inr h) (inl k) nq nr e = omega (arith, e, nq)
less_one p q r (inr h) (inr k) nq nr e = omega (arith, e, nq, nr)

other_default : {X : Type 0} (ys : List X) (k : ℕ) (d e : X) → k < length ys → get_or ys k d ≡ get_or ys k e
other_default [] k d e l = absurd (omega arith)
other_default (y ∷ ys) zero d e l = refl
other_default (y ∷ ys) (suc k) d e l = other_default ys k d e (omega arith)

-- the places of the others, where that of the first is taken out
pub others_placed : {X : Type 0} (d x : X) (xs ys : List X) (p : Placed d (x ∷ xs) ys) → Placed d xs (remove ys (p.place 0))
others_placed d x xs ys p =
    let q = p.place 0 in
    let lt = p.within 0 (omega arith) in
    let n = length-remove ys q lt in
    let ev = p.even in
    let ne : (k : ℕ) → k < length xs → p.place (suc k) ≢ q = λ k h f. absurd (let z = p.apart (suc k) 0 (omega arith) (omega arith) f in omega (arith, z)) in
    record {
      even = omega (arith, n, ev);
      place = λ k. less_by q (p.place (suc k)) (below_or (p.place (suc k)) q);
      within = λ k h. less_in ys q (p.place (suc k)) (below_or (p.place (suc k)) q) (ne k h) lt (p.within (suc k) (omega arith));
      apart = λ j k hj hk f. (let z = p.apart (suc j) (suc k) (omega arith) (omega arith) (less_one q (p.place (suc j)) (p.place (suc k)) (below_or (p.place (suc j)) q) (below_or (p.place (suc k)) q) (ne j hj) (ne k hk) f) in omega (arith, z));
      same = λ k h. less_get d ys q (p.place (suc k)) (below_or (p.place (suc k)) q) (ne k h) lt ∙ p.same (suc k) (omega arith);
    }

-- where each has a place, the bags are the same
pub permutation_of : {X : Type 0} (d : X) (xs ys : List X) → Placed d xs ys → IsPermutation xs ys
permutation_of d [] [] p = IsPermutation-refl []
permutation_of d [] (y ∷ ys) p = absurd (let e = p.even in omega (arith, e))
permutation_of d (x ∷ xs) ys p =
    let q = p.place 0 in
    let lt = p.within 0 (omega arith) in
    let e : x ≡ get_or ys q x = sym (p.same 0 (omega arith)) ∙ other_default ys q d x lt in
    let r = IsPermutation-remove ys q x lt e in
    IsPermutation-trans (x ∷ xs) (x ∷ remove ys q) ys (IsPermutation-cons x xs (remove ys q) (permutation_of d xs (remove ys q) (others_placed d x xs ys p))) (IsPermutation-sym ys (x ∷ remove ys q) r)

-- what is picked of a list from which one is taken out, and of that one
picked_out : {X Y : Type 0} (pick : X → List Y) (d : X) (ys : List X) (q : ℕ) → q < length ys → IsPermutation (pick (get_or ys q d) ++ flat_map pick (remove ys q)) (flat_map pick ys)
picked_out pick d [] q l = absurd (omega arith)
picked_out pick d (y ∷ ys) zero l = IsPermutation-refl (pick y ++ flat_map pick ys)
picked_out {X} {Y} pick d (y ∷ ys) (suc q) l =
    let a = pick (get_or ys q d) in
    let b = pick y in
    let r = flat_map pick (remove ys q) in
    let h = picked_out pick d ys q (omega arith) in
    IsPermutation-trans (a ++ (b ++ r)) (b ++ (a ++ r)) (b ++ flat_map pick ys)
    (subst (λ (z : List Y). IsPermutation z (b ++ (a ++ r))) (append_assoc a b r) (subst (λ (z : List Y). IsPermutation ((a ++ b) ++ r) z) (append_assoc b a r) (IsPermutation-append_left r (a ++ b) (b ++ a) (IsPermutation-append_comm a b))))
    (IsPermutation-append_right b (a ++ r) (flat_map pick ys) h)

picked_by : {X Y : Type 0} (pick : X → List Y) (d : X) (xs ys : List X) → Placed d xs ys → IsPermutation (flat_map pick xs) (flat_map pick ys)
picked_by pick d [] [] p = IsPermutation-refl []
picked_by pick d [] (y ∷ ys) p = absurd (let e = p.even in omega (arith, e))
picked_by {X} {Y} pick d (x ∷ xs) ys p =
    let q = p.place 0 in
    let lt = p.within 0 (omega arith) in
    let h = picked_by pick d xs (remove ys q) (others_placed d x xs ys p) in
    IsPermutation-trans (pick x ++ flat_map pick xs) (pick x ++ flat_map pick (remove ys q)) (flat_map pick ys)
    (IsPermutation-append_right (pick x) (flat_map pick xs) (flat_map pick (remove ys q)) h)
    (subst (λ (z : X). IsPermutation (pick z ++ flat_map pick (remove ys q)) (flat_map pick ys)) (p.same 0 (omega arith)) (picked_out pick d ys q lt))

-- bags of what is picked of the elements of equal bags
pub picked : {X Y : Type 0} (pick : X → List Y) (d : X) (xs ys : List X) → IsPermutation xs ys → IsPermutation (flat_map pick xs) (flat_map pick ys)
picked pick d xs ys h = picked_by pick d xs ys (placed_of d xs ys h)

-- what holds of some element of a bag
pub any_of_bag : {X : Type 0} (P : X → Type 0) (xs ys : List X) → IsPermutation xs ys → Any P xs → Any P ys
any_of_bag P xs ys h (k, x, l, e, p) =
    let w = placed_of x xs ys h in
    (w.place k, x, w.within k l, w.same k l ∙ e, p)
