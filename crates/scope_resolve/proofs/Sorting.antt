-- What was found, in order, is the list of all readings.
use Rattle.std.proofs.Common.{ℕ, suc, ◌≡◌, ◌<◌, ◌≤◌, ◌+◌, ◌⊎◌, inl, inr, ◌∙◌, false, List, [], ◌∷◌, map, get_or, refl, sym, ap, ap₂, subst, arith, add-one}
use Rattle.std.specs.Prelude.{Contains}
use Rattle.std.specs.List.{sum_by}
use Rattle.std.specs.List.Sorted.{IsSortedBy, IsPermutation}
use Rattle.std.specs.Ordering.{nat_cmp, is_lt, ordering_reverse, ordering_then}
use Rattle.std.specs.declared.cmp.Ordering.{Ordering}
use Rattle.std.specs.declared.cmp.Ordering.TheVariants.{Less, Equal, Greater}
use Rattle.std.specs.Cmp.Lexicographic.{slice_cmp, nat_list_cmp_total}
use Rattle.std.proofs.lemmas.Cmp.{nat_cmp_total}
use Rattle.scope_resolve.proofs.Tabling.{rise_rest, rise_first}
use Rattle.std.proofs.lemmas.Map.Lookups.{exact_bytes}
use Rattle.std.proofs.lemmas.List.Sorted.{sum_by-IsPermutation, Contains-permutation, IsPermutation-sym, IsPermutation-map}
use Rattle.std.proofs.lemmas.List.Sums.{sum_by-cons}
use Rattle.scope_model.specs.declared.Plug.{Plug}
use Rattle.scope_model.specs.declared.Plugging.{Plugging}
use Rattle.scope_model.specs.Frames.{Frame}
use Rattle.scope_model.specs.Readings.{Plugged, Rise, IsReading}
use Rattle.scope_model.specs.Answers.{plug_of, plugged_of, key_of, Rises, AreReadings}
use Rattle.scope_model.proofs.Lists.{In, in_of, contains_of, of_map}
use Rattle.scope_resolve.specs.Inner.Filling.{AreDistinct}

abbrev Key : Type 0
Key = List ℕ

abbrev compare : Key → Key → Ordering
compare = slice_cmp nat_cmp

-- how often a key stands in a list
abbrev one_if : Ordering → ℕ
one_if Less = 0
one_if Equal = 1
one_if Greater = 0

abbrev times : Key → List Key → ℕ
times t ts = sum_by (λ u. one_if (compare t u)) ts

times_more : (t u : Key) (ts : List Key) → times t (u ∷ ts) ≡ one_if (compare t u) + times t ts
times_more t u ts = sum_by-cons (λ v. one_if (compare t v)) u ts

self_by : (o : Ordering) → o ≡ ordering_reverse o → o ≡ Equal
self_by Less e = let w : Less ≡ Greater = e in absurd (cc)
self_by Equal e = refl
self_by Greater e = let w : Greater ≡ Less = e in absurd (cc)

itself : (t : Key) → one_if (compare t t) ≡ 1
itself t = ap one_if (self_by (compare t t) (nat_list_cmp_total.antisymm t t))

most_by : (o : Ordering) → one_if o ≤ 1
most_by Less = omega arith
most_by Equal = omega arith
most_by Greater = omega arith

same_by : (t u : Key) (o : Ordering) → compare t u ≡ o → (one_if o ≡ 0) ⊎ (t ≡ u)
same_by t u Less e = inl refl
same_by t u Equal e = inr (exact_bytes t u e)
same_by t u Greater e = inl refl

absent : (t : Key) (ts : List Key) → (In t ts → ⊥) → times t ts ≡ 0
absent t [] never = refl
absent t (u ∷ ts) never =
    let b = absent t ts (λ h. never (inr h)) in
    let m = times_more t u ts in
    elim (same_by t u (compare t u) refl) [ inl a ↦ omega (arith, a, b, m) | inr e ↦ absurd (never (inl e)) ]

present : (t : Key) (ts : List Key) → In t ts → 1 ≤ times t ts
present t [] i = absurd i
present t (u ∷ ts) (inl e) = let a : one_if (compare t u) ≡ 1 = subst (λ v. one_if (compare t v) ≡ 1) e (itself t) in let m = times_more t u ts in omega (arith, a, m)
present t (u ∷ ts) (inr i) = let a = present t ts i in let m = times_more t u ts in omega (arith, a, m)

-- no key stands twice
abbrev pub Differ : List Key → Type 0
Differ [] = Unit {0}
Differ (t ∷ ts) = (In t ts → ⊥) × Differ ts

few : (ts : List Key) → Differ ts → (t : Key) → times t ts ≤ 1
few [] d t = omega arith
few (u ∷ ts) d t = few_by (few ts d.1 t) (same_by t u (compare t u) refl)
  where
    few_by : times t ts ≤ 1 → (one_if (compare t u) ≡ 0) ⊎ (t ≡ u) → times t (u ∷ ts) ≤ 1
    few_by b (inl a) = let m = times_more t u ts in omega (arith, a, b, m)
    few_by b (inr e) = let a = most_by (compare t u) in let c = absent t ts (λ i. d.0 (subst (λ v. In v ts) e i)) in let m = times_more t u ts in omega (arith, a, c, m)

differ_from : (ts : List Key) → ((t : Key) → times t ts ≤ 1) → Differ ts
differ_from [] once = tt
differ_from (u ∷ ts) once = (
  (λ i. let a = itself u in let b = present u ts i in let c = once u in let m = times_more u u ts in absurd (omega (arith, a, b, c, m))),
  differ_from ts (λ t. let c = once t in let m = times_more t u ts in omega (arith, c, m)),
)

pub differ_permuted : (ts us : List Key) → IsPermutation ts us → Differ ts → Differ us
differ_permuted ts us p d = differ_from us (λ t. let e = sum_by-IsPermutation (λ u. one_if (compare t u)) ts us p in let c = few ts d t in omega (arith, e, c))

-- the order of pluggings with the same holes is that of their labels
abbrev pairs_cmp : ℕ × ℕ → ℕ × ℕ → Ordering
pairs_cmp a b = ordering_then (nat_cmp a.0 b.0) (nat_cmp a.1 b.1)

abbrev labels_of : List (ℕ × ℕ) → List ℕ
labels_of xs = map (λ (k : Plug). k.label) (map plug_of xs)

abbrev holes_of_pairs : List (ℕ × ℕ) → List ℕ
holes_of_pairs xs = map (λ (k : Plug). k.hole) (map plug_of xs)

cmp_same : (n : ℕ) (o : Ordering) → ordering_then (nat_cmp n n) o ≡ o
cmp_same n o = ap (λ z. ordering_then z o) (self_by (nat_cmp n n) (nat_cmp_total.antisymm n n))

-- pairs with the same first parts compare by the second ones
pub by_labels : (xs ys : List (ℕ × ℕ)) → holes_of_pairs xs ≡ holes_of_pairs ys → slice_cmp pairs_cmp xs ys ≡ slice_cmp nat_cmp (labels_of xs) (labels_of ys)
by_labels [] [] e = refl
by_labels [] (y ∷ ys) e = absurd (let w : [] ≡ holes_of_pairs (y ∷ ys) = e in cc)
by_labels (x ∷ xs) [] e = absurd (let w : holes_of_pairs (x ∷ xs) ≡ [] = e in cc)
by_labels (x ∷ xs) (y ∷ ys) e =
    let h : x.0 ≡ y.0 = ap (λ l. head_or l) e in
    let t : holes_of_pairs xs ≡ holes_of_pairs ys = ap (λ l. tail_or l) e in
    let c : pairs_cmp x y ≡ nat_cmp x.1 y.1 = subst (λ n. ordering_then (nat_cmp x.0 n) (nat_cmp x.1 y.1) ≡ nat_cmp x.1 y.1) h (cmp_same x.0 (nat_cmp x.1 y.1)) in
    ap₂ ordering_then c (by_labels xs ys t)
  where
    head_or : List ℕ → ℕ
    head_or [] = 0
    head_or (z ∷ zs) = z

    tail_or : List ℕ → List ℕ
    tail_or [] = []
    tail_or (z ∷ zs) = zs

abbrev pub plugging_cmp : Plugging → Plugging → Ordering
plugging_cmp p q = ordering_then (nat_cmp p.top q.top) (slice_cmp pairs_cmp p.holes.items q.holes.items)

by_key : (p q : Plugging) → holes_of_pairs p.holes.items ≡ holes_of_pairs q.holes.items → plugging_cmp p q ≡ compare (key_of (plugged_of p)) (key_of (plugged_of q))
by_key p q e = ap (ordering_then (nat_cmp p.top q.top)) (by_labels p.holes.items q.holes.items e)

-- not after, and not equal: before
before_by : (t u : Key) (o : Ordering) → compare u t ≡ o → is_lt o ≡ false → (t ≡ u → ⊥) → compare t u ≡ Less
before_by t u Less e f apart = absurd (cc)
before_by t u Equal e f apart = absurd (apart (sym (exact_bytes u t e)))
before_by t u Greater e f apart = nat_list_cmp_total.antisymm t u ∙ ap ordering_reverse e

-- rising lists with the same numbers are one
one_rising : (xs ys : List ℕ) → Rise xs → Rise ys → ((v : ℕ) → In v xs → In v ys) → ((v : ℕ) → In v ys → In v xs) → xs ≡ ys
one_rising [] [] o p to back = refl
one_rising [] (y ∷ ys) o p to back = absurd (back y (inl refl))
one_rising (x ∷ xs) [] o p to back = absurd (to x (inl refl))
one_rising (x ∷ xs) (y ∷ ys) o p to back =
    let e : x ≡ y = first (to x (inl refl)) (back y (inl refl)) in
    ap₂ (λ (v : ℕ) (l : List ℕ). v ∷ l) e (one_rising xs ys (rise_rest x xs o) (rise_rest y ys p) (λ v i. later v x y ys (rise_first x xs o v i) e (to v (inr i))) (λ v i. later v y x xs (rise_first y ys p v i) (sym e) (back v (inr i))))
  where
    first : (x ≡ y) ⊎ In x ys → (y ≡ x) ⊎ In y xs → x ≡ y
    first (inl e) b = e
    first (inr i) (inl e) = sym e
    first (inr i) (inr j) = absurd (let a = rise_first y ys p x i in let b = rise_first x xs o y j in omega (arith, a, b))

    later : (v a b : ℕ) (bs : List ℕ) → a < v → a ≡ b → In v (b ∷ bs) → In v bs
    later v a b bs l e (inl d) = absurd (omega (arith, l, d, e))
    later v a b bs l e (inr i) = i

module _ (f : Frame) where
  holes_same : (p q : Plugged) → IsReading f p → IsReading f q → map (λ (k : Plug). k.hole) p.plugs ≡ map (λ (k : Plug). k.hole) q.plugs
  holes_same p q r s = one_rising _ _ r.plugging.order s.plugging.order
      (λ v i. in_of _ v ((s.plugging.every v).0 ((r.plugging.every v).1 (contains_of _ v i))))
      (λ v i. in_of _ v ((r.plugging.every v).0 ((s.plugging.every v).1 (contains_of _ v i))))

  zipped : (xs ys : List Plug) → map (λ (k : Plug). k.hole) xs ≡ map (λ (k : Plug). k.hole) ys → map (λ (k : Plug). k.label) xs ≡ map (λ (k : Plug). k.label) ys → xs ≡ ys
  zipped [] [] a b = refl
  zipped [] (y ∷ ys) a b = absurd (let w : [] ≡ map (λ (k : Plug). k.hole) (y ∷ ys) = a in cc)
  zipped (x ∷ xs) [] a b = absurd (let w : map (λ (k : Plug). k.hole) (x ∷ xs) ≡ [] = a in cc)
  zipped (x ∷ xs) (y ∷ ys) a b =
      let h : x.hole ≡ y.hole = ap head_or a in
      let l : x.label ≡ y.label = ap head_or b in
      let rest = zipped xs ys (ap tail_or a) (ap tail_or b) in
      λ j. record { hole = h j; label = l j } ∷ rest j
    where
      head_or : List ℕ → ℕ
      head_or [] = 0
      head_or (z ∷ zs) = z

      tail_or : List ℕ → List ℕ
      tail_or [] = []
      tail_or (z ∷ zs) = zs

  one_key : (p q : Plugged) → IsReading f p → IsReading f q → key_of p ≡ key_of q → p ≡ q
  one_key p q r s e =
      let t : p.top ≡ q.top = ap head_or e in
      let l = zipped p.plugs q.plugs (holes_same p q r s) (ap tail_or e) in
      λ j. record { top = t j; plugs = l j }
    where
      head_or : List ℕ → ℕ
      head_or [] = 0
      head_or (z ∷ zs) = z

      tail_or : List ℕ → List ℕ
      tail_or [] = []
      tail_or (z ∷ zs) = zs

  keys_differ : (ps : List Plugged) → ((p : Plugged) → In p ps → IsReading f p) → AreDistinct ps → Differ (map key_of ps)
  keys_differ [] each d = tt
  keys_differ (p ∷ ps) each d = (λ i. again (of_map key_of (key_of p) ps i), keys_differ ps (λ q i. each q (inr i)) d.1)
    where
      again : (q : Plugged) × In q ps × (key_of q ≡ key_of p) → ⊥
      again r = d.0 (contains_of ps p (subst (λ z. In z ps) (one_key r.0 p (each r.0 (inr r.1)) (each p (inl refl)) r.2) r.1))

  abbrev Sorted : List Plugging → Type 0
  Sorted us = IsSortedBy (λ x y. is_lt (plugging_cmp x y)) us

  sorted_rest : (t : Plugging) (ts : List Plugging) → Sorted (t ∷ ts) → Sorted ts
  sorted_rest t ts sorted n e low high =
      let h = sorted (suc n) e (omega arith) (omega (arith, high)) in
      let p : get_or (t ∷ ts) (suc n + 1) e ≡ get_or ts (n + 1) e = rw (add-one (suc n), add-one n) refl in
      subst (λ z. is_lt (plugging_cmp z (get_or ts n e)) ≡ false) p h

  rises : (us : List Plugging) → ((p : Plugged) → In p (map plugged_of us) → IsReading f p) → Sorted us → Differ (map key_of (map plugged_of us)) → Rises (map plugged_of us)
  rises [] each sorted d = tt
  rises (t ∷ []) each sorted d = tt
  rises (t ∷ u ∷ us) each sorted d =
      let same = holes_same (plugged_of u) (plugged_of t) (each (plugged_of u) (inr (inl refl))) (each (plugged_of t) (inl refl)) in
      let lt : is_lt (compare (key_of (plugged_of u)) (key_of (plugged_of t))) ≡ false = subst (λ o. is_lt o ≡ false) (by_key u t same) (sorted 0 t (omega arith) (omega arith)) in
      (before_by (key_of (plugged_of t)) (key_of (plugged_of u)) _ refl lt (λ e. d.0 (inl e)), rises (u ∷ us) (λ p i. each p (inr i)) (sorted_rest t (u ∷ us) sorted) d.1)

  module _ (ps us : List Plugging) (each : (p : Plugged) → Contains (map plugged_of ps) p → IsReading f p) (once : AreDistinct (map plugged_of ps)) (moved : IsPermutation ps us) (sorted : Sorted us) where
    moved_all : IsPermutation (map plugged_of ps) (map plugged_of us)
    moved_all = IsPermutation-map plugged_of ps us moved

    pub each_moved : (p : Plugged) → Contains (map plugged_of us) p → IsReading f p
    each_moved p c = each p (Contains-permutation (map plugged_of us) (map plugged_of ps) p (IsPermutation-sym (map plugged_of ps) (map plugged_of us) moved_all) c)

    pub in_order : Rises (map plugged_of us)
    in_order = rises us (λ p i. each_moved p (contains_of _ p i)) sorted
        (differ_permuted (map key_of (map plugged_of ps)) (map key_of (map plugged_of us)) (IsPermutation-map key_of (map plugged_of ps) (map plugged_of us) moved_all) (keys_differ (map plugged_of ps) (λ p i. each p (contains_of _ p i)) once))

    pub all_readings : ((p : Plugged) → IsReading f p → Contains (map plugged_of ps) p) → AreReadings f (map plugged_of us)
    all_readings all = record {
      order = in_order;
      every = λ p. (each_moved p, λ r. Contains-permutation (map plugged_of ps) (map plugged_of us) p moved_all (all p r));
    }
