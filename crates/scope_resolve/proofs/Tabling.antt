-- Tables by number.
use Rattle.std.proofs.Common.{ℕ, zero, suc, ◌≡◌, ◌≢◌, ◌<◌, ◌≤◌, ◌+◌, ◌⊎◌, inl, inr, ◌∙◌, Bool, true, false, List, [], ◌∷◌, ◌++◌, map, length, get_or, take, set, replicate, slice_index, refl, sym, ap, subst, arith, ◌==◌, length-append}
use Rattle.std.specs.Prelude.{Contains, ◌↔◌}
use Rattle.std.proofs.lemmas.Bool.{eqb-true, eqb-false}
use Rattle.std.proofs.Math.ListN.{get_or-append}
use Rattle.std.proofs.Math.Seq.{get_or-append_seam}
use Rattle.std.proofs.lemmas.List.{get_or-set_same, get_or-set_other}
use Rattle.std.proofs.lemmas.List.Elements.{Contains-append_left, Contains-append_cases}
use Rattle.scope_model.specs.declared.Opening.{Opening}
use Rattle.scope_model.specs.Readings.{Rise}
use Rattle.scope_model.specs.States.{AreApart, AreOnce}
use Rattle.scope_model.proofs.Lists.{In, in_of, contains_of, in_at, in_right, of_map}
use Rattle.scope_resolve.proofs.Rows.{next}

none_marked : (n v : ℕ) → get_or (replicate n false) v false ≡ false
none_marked zero v = refl
none_marked (suc n) zero = refl
none_marked (suc n) (suc v) = none_marked n v

pub marks_first : (n : ℕ) (xs : List ℕ) (v : ℕ) → (get_or (replicate n false) v false ≡ true) ↔ Contains (take 0 xs) v
marks_first n [] v = (λ e. (let q = none_marked n v in absurd (cc)), λ c. absurd (in_of [] v c))
marks_first n (x ∷ xs) v = (λ e. (let q = none_marked n v in absurd (cc)), λ c. absurd (in_of [] v c))

one_side : {A : Type 0} (xs : List A) (x y : A) → Contains (xs ++ x ∷ []) y → Contains xs y ⊎ (y ≡ x)
one_side xs x y c = by_side (Contains-append_cases xs (x ∷ []) y c)
  where
    by_side : Contains xs y ⊎ Contains (x ∷ []) y → Contains xs y ⊎ (y ≡ x)
    by_side (inl d) = inl d
    by_side (inr d) = inr (by_only (in_of (x ∷ []) y d))
      where
        by_only : In y (x ∷ []) → y ≡ x
        by_only (inl e) = e
        by_only (inr j) = absurd j

at_end : {A : Type 0} (xs : List A) (x : A) → Contains (xs ++ x ∷ []) x
at_end xs x = contains_of (xs ++ x ∷ []) x (in_right x xs (x ∷ []) (inl refl))

-- one more mark
pub mark_on : (ms : List Bool) (ys : List ℕ) (x : ℕ) → x < length ms → ((v : ℕ) → (get_or ms v false ≡ true) ↔ Contains ys v) → (v : ℕ) → (get_or (set ms x true) v false ≡ true) ↔ Contains (ys ++ x ∷ []) v
mark_on ms ys x l known v = by_test (v == x) refl
  where
    by_test : (b : Bool) → b ≡ (v == x) → (get_or (set ms x true) v false ≡ true) ↔ Contains (ys ++ x ∷ []) v
    by_test true q =
        let e : v ≡ x = eqb-true v x (sym q) in
        (λ _. subst (Contains (ys ++ x ∷ [])) (sym e) (at_end ys x), λ _. subst (λ w. get_or (set ms x true) w false ≡ true) (sym e) (get_or-set_same ms x true false l))
    by_test false q =
        let other : v ≢ x = eqb-false v x (sym q) in
        let same = get_or-set_other ms x v true false other in
        (λ e. Contains-append_left ys (x ∷ []) v ((known v).0 (sym same ∙ e)), λ c. same ∙ (known v).1 (by_side (one_side ys x v c)))
      where
        by_side : Contains ys v ⊎ (v ≡ x) → Contains ys v
        by_side (inl d) = d
        by_side (inr e) = absurd (eqb-false v x (sym q) e)

pub mark_more : (ms : List Bool) (xs : List ℕ) (k x : ℕ) → x < length ms → k < length xs → x ≡ get_or xs k x → ((v : ℕ) → (get_or ms v false ≡ true) ↔ Contains (take k xs) v)
    → (v : ℕ) → (get_or (set ms x true) v false ≡ true) ↔ Contains (take (k + 1) xs) v
mark_more ms xs k x l lt e known = subst (λ ys. (v : ℕ) → (get_or (set ms x true) v false ≡ true) ↔ Contains ys v) (sym (next xs k x lt e)) (mark_on ms (take k xs) x l known)

lower_or : (a b : ℕ) → (a < b) ⊎ (b ≤ a)
lower_or zero zero = inr (omega arith)
lower_or zero (suc b) = inl (omega arith)
lower_or (suc a) zero = inr (omega arith)
lower_or (suc a) (suc b) = elim (lower_or a b) [ inl l ↦ inl (omega (arith, l)) | inr l ↦ inr (omega (arith, l)) ]

-- numbers that rise
pub rise_more : (xs : List ℕ) (v : ℕ) → Rise xs → ((w : ℕ) → Contains xs w → w < v) → Rise (xs ++ v ∷ [])
rise_more xs v r below k l = by_place (lower_or (k + 1) (length xs))
  where
    by_place : (k + 1 < length xs) ⊎ (length xs ≤ k + 1) → get_or (xs ++ v ∷ []) k 0 < get_or (xs ++ v ∷ []) (k + 1) 0
    by_place (inl m) = rw (get_or-append xs (v ∷ []) 0 k (omega (arith, m)), get_or-append xs (v ∷ []) 0 (k + 1) m) (r k m)
    by_place (inr m) =
        let n = length-append xs (v ∷ []) in
        let e : k + 1 ≡ length xs = omega (arith, l, m, n) in
        let s : get_or (xs ++ v ∷ []) (k + 1) 0 ≡ v = ap (λ j. get_or (xs ++ v ∷ []) j 0) e ∙ get_or-append_seam xs v [] 0 in
        let lt : k < length xs = omega (arith, e) in
        let b = below (get_or xs k 0) (contains_of xs (get_or xs k 0) (in_at xs k 0 lt)) in
        rw (get_or-append xs (v ∷ []) 0 k lt, s) b

pub rise_rest : (n : ℕ) (ns : List ℕ) → Rise (n ∷ ns) → Rise ns
rise_rest n ns r k l = let e : suc k + 1 ≡ suc (k + 1) = omega arith in subst (λ z. slice_index ns k < slice_index (n ∷ ns) z) e (r (suc k) (omega (arith, l)))

pub rise_first : (n : ℕ) (ns : List ℕ) → Rise (n ∷ ns) → (m : ℕ) → In m ns → n < m
rise_first n [] r m i = absurd i
rise_first n (x ∷ ns) r m (inl e) = let l : n < x = r 0 (omega arith) in subst (λ z. n < z) (sym e) l
rise_first n (x ∷ ns) r m (inr i) =
    let l : n < x = r 0 (omega arith) in
    let a = rise_first x ns (rise_rest n (x ∷ ns) r) m i in
    omega (arith, a, l)

pub once_of : (ns : List ℕ) → Rise ns → AreOnce ns
once_of [] r = tt
once_of (n ∷ ns) r = (λ c. (let l = rise_first n ns r n (in_of ns n c) in omega (arith, l)), once_of ns (rise_rest n ns r))

-- holes in one role alone
apart_on : (os : List Opening) (o : Opening) → AreApart os → ((k : Opening) → In k os → k.hole ≡ o.hole → ⊥) → AreApart (os ++ o ∷ [])
apart_on [] o a new = (λ k c e. in_of [] k c, tt)
apart_on (x ∷ os) o a new = (λ k c e. by_side k (one_side os o k c) e, apart_on os o a.1 (λ k i e. new k (inr i) e))
  where
    by_side : (k : Opening) → Contains os k ⊎ (k ≡ o) → k.hole ≡ x.hole → ⊥
    by_side k (inl d) e = a.0 k d e
    by_side k (inr d) e = new x (inl refl) (sym e ∙ ap (λ (z : Opening). z.hole) d)

apart_last : (os : List Opening) (o k : Opening) → AreApart (os ++ o ∷ []) → In k os → k.hole ≡ o.hole → ⊥
apart_last [] o k a i e = i
apart_last (x ∷ os) o k a (inl d) e = a.0 o (at_end os o) (sym e ∙ ap (λ (z : Opening). z.hole) d)
apart_last (x ∷ os) o k a (inr i) e = apart_last os o k a.1 i e

apart_take : (os : List Opening) (n : ℕ) → AreApart os → AreApart (take n os)
apart_take [] zero a = tt
apart_take [] (suc n) a = tt
apart_take (o ∷ os) zero a = tt
apart_take (o ∷ os) (suc n) a = (λ k c e. a.0 k (contains_of os k (in_take os n k (in_of (take n os) k c))) e, apart_take os n a.1)
  where
    in_take : (xs : List Opening) (n : ℕ) (k : Opening) → In k (take n xs) → In k xs
    in_take [] zero k i = i
    in_take [] (suc n) k i = i
    in_take (x ∷ xs) zero k i = absurd i
    in_take (x ∷ xs) (suc n) k (inl e) = inl e
    in_take (x ∷ xs) (suc n) k (inr i) = inr (in_take xs n k i)

abbrev Seen : List Bool → List Opening → Type 0
Seen seen os = (h : ℕ) → (get_or seen h false ≡ true) ↔ Contains (map (λ (o : Opening). o.hole) os) h

pub twice : (seen : List Bool) (os : List Opening) (k : ℕ) (o : Opening) → k < length os → o ≡ get_or os k o → Seen seen (take k os) → get_or seen o.hole false ≡ true → AreApart os → ⊥
twice seen os k o l e known y a =
    let j = of_map (λ (z : Opening). z.hole) o.hole (take k os) (in_of _ _ ((known o.hole).0 y)) in
    apart_last (take k os) o j.0 (subst AreApart (next os k o l e) (apart_take os (k + 1) a)) j.1 j.2

pub apart_more : (seen : List Bool) (os : List Opening) (k : ℕ) (o : Opening) → k < length os → o ≡ get_or os k o → Seen seen (take k os) → get_or seen o.hole false ≡ false → AreApart (take k os) → AreApart (take (k + 1) os)
apart_more seen os k o l e known n a = subst AreApart (sym (next os k o l e)) (apart_on (take k os) o a never)
  where
    never : (j : Opening) → In j (take k os) → j.hole ≡ o.hole → ⊥
    never j i d =
        let y = (known o.hole).1 (subst (Contains _) d (contains_of _ j.hole (hole_in (take k os) j i))) in
        let z : true ≡ false = sym y ∙ n in
        absurd (cc)
      where
        hole_in : (xs : List Opening) (x : Opening) → In x xs → In x.hole (map (λ (z : Opening). z.hole) xs)
        hole_in [] x m = absurd m
        hole_in (y ∷ xs) x (inl q) = inl (ap (λ (z : Opening). z.hole) q)
        hole_in (y ∷ xs) x (inr m) = inr (hole_in xs x m)
