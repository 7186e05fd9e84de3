-- Lists of names that grow, each name once.
use Rattle.std.proofs.Common.{ℕ, zero, suc, ◌≡◌, ◌<◌, ◌≤◌, ◌+◌, ◌⊎◌, inl, inr, ◌||◌, Bool, true, false, cond, List, [], ◌∷◌, ◌++◌, length, map, take, get_or, slice_index_or, String, refl, sym, ◌∙◌, ap, subst, arith}
use Rattle.std.specs.Global.{Global}
use Rattle.std.specs.List.{list_any, flat_map, sum_by}
use Rattle.std.specs.List.Sorted.{IsPermutation, IsSorted}
use Rattle.std.specs.Cmp.Lexicographic.{slice_cmp}
use Rattle.std.specs.Ordering.{nat_cmp, is_lt}
use Rattle.std.specs.Str.{bytes_eq}
use Rattle.std.specs.String.{string_bytes, string_eq, string_cmp}
use Rattle.std.proofs.lemmas.Bool.{cases_lt}
use Rattle.std.proofs.lemmas.List.{map-append, get_or_append_left, get_or_at, get_or-map, length-map, length-append}
use Rattle.std.proofs.lemmas.List.Sums.{sum_by-cons, sum_by_push}
use Rattle.std.proofs.lemmas.List.Sorted.{sum_by-IsPermutation, Contains-permutation}
pub use Rattle.type_facts.proofs.Bytes.{bytes_eq-same, bytes_eq-refl, bytes_eq-swap}
use Rattle.fs_model.specs.Claims.{Has, here, there}
use Rattle.type_hierarchy.specs.Decls.{Name, texts}
use Rattle.type_hierarchy.specs.Table.{IsDistinct}
use Rattle.type_hierarchy.proofs.ListLemmas.{list_any-map}
use Rattle.body_facts.specs.declared.brackets.Use.{Use}
use Rattle.body_facts.specs.BracketUses.{used_of}
use Rattle.constraint_expand.specs.Found.{has_name, with_each}
use Rattle.type_facts.proofs.ListLemmas.{bools, true_not_false, Has-left, Has-right, Has-either, Has-one, Has-cons, Has-at, Has-place, flat_map_next}

pub has_texts : (keys : List (String Global)) (n : Name) → has_name (texts keys) n ≡ list_any (λ k. bytes_eq n (string_bytes k)) keys
has_texts keys n = list_any-map (bytes_eq n) string_bytes keys

-- a name that is there already, and a new one
pub note_old : (keys : List (String Global)) (x : Name) → list_any (λ j. bytes_eq x (string_bytes j)) keys ≡ true → texts keys ≡ with_each (texts keys) (x ∷ [])
note_old keys x h = sym (ap (λ b. cond b (texts keys) (texts keys ++ x ∷ [])) (has_texts keys x ∙ h))

pub note_new : (keys new : List (String Global)) (k : String Global) (x : Name) → string_bytes k ≡ x → list_any (λ j. bytes_eq x (string_bytes j)) keys ≡ false →
    new ≡ cond (list_any (string_eq k) keys) keys (keys ++ k ∷ []) → texts new ≡ with_each (texts keys) (x ∷ [])
note_new keys new k x e h is =
    ap texts (is ∙ ap (λ b. cond b keys (keys ++ k ∷ [])) absent) ∙ map-append string_bytes keys (k ∷ []) ∙ ap (λ n. texts keys ++ n ∷ []) e
    ∙ sym (ap (λ b. cond b (texts keys) (texts keys ++ x ∷ [])) (has_texts keys x ∙ h))
  where
    absent : list_any (string_eq k) keys ≡ false
    absent = subst (λ n. list_any (λ j. bytes_eq n (string_bytes j)) keys ≡ false) (sym e) h

pub with_each-append : (ns xs ys : List Name) → with_each ns (xs ++ ys) ≡ with_each (with_each ns xs) ys
with_each-append ns [] ys = refl
with_each-append ns (x ∷ xs) ys = with_each-append (cond (has_name ns x) ns (ns ++ x ∷ [])) xs ys

-- one step of a loop that adds the names of each
pub each_step : {X : Type 0} (S : X → List Name) (now new old : List Name) (xs : List X) (i : ℕ) (x : X) → i < length xs → x ≡ get_or xs i x →
    new ≡ with_each now (S x) → now ≡ with_each old (flat_map S (take i xs)) → new ≡ with_each old (flat_map S (take (i + 1) xs))
each_step S now new old xs i x h e grown had =
    grown ∙ ap (λ m. with_each m (S x)) had ∙ sym (with_each-append old (flat_map S (take i xs)) (S x)) ∙ ap (with_each old) (sym (flat_map_next S xs i x h e))

-- names that stand before stay where they are
pub with_each-front : (ns xs : List Name) (i : ℕ) → i < length ns → slice_index_or (with_each ns xs) i [] ≡ slice_index_or ns i []
with_each-front ns [] i h = refl
with_each-front ns (x ∷ xs) i h =
    go (has_name ns x) (with_each-front ns xs i h) (with_each-front (ns ++ x ∷ []) xs i (omega (arith, length-append ns (x ∷ []))))
  where
    go : (b : Bool) → slice_index_or (with_each ns xs) i [] ≡ slice_index_or ns i [] →
        slice_index_or (with_each (ns ++ x ∷ []) xs) i [] ≡ slice_index_or (ns ++ x ∷ []) i [] →
        slice_index_or (with_each (cond b ns (ns ++ x ∷ [])) xs) i [] ≡ slice_index_or ns i []
    go true old new = old
    go false old new = new ∙ get_or_append_left ns (x ∷ []) [] i h

has_true : (ns : List Name) (x : Name) → has_name ns x ≡ true → Has x ns
has_true [] x h = absurd (let z : true ≡ false = sym h in cc)
has_true (n ∷ ns) x h = go (bytes_eq x n) refl h (has_true ns x)
  where
    go : (b : Bool) → bytes_eq x n ≡ b → (b || has_name ns x) ≡ true → (has_name ns x ≡ true → Has x ns) → Has x (n ∷ ns)
    go true e k rest = subst (λ y. Has y (n ∷ ns)) (sym (bytes_eq-same x n e)) here
    go false e k rest = there (rest k)

-- what is added is there
pub with_each-all : (ns xs : List Name) (f : Name) → Has f ns ⊎ Has f xs → Has f (with_each ns xs)
with_each-all ns [] f (inl h) = h
with_each-all ns [] f (inr h) = elim h [ ]
with_each-all ns (x ∷ xs) f h = go (has_name ns x) refl (split h) (with_each-all ns xs f) (with_each-all (ns ++ x ∷ []) xs f)
  where
    split : Has f ns ⊎ Has f (x ∷ xs) → Has f ns ⊎ ((f ≡ x) ⊎ Has f xs)
    split (inl k) = inl k
    split (inr k) = inr (Has-cons f x xs k)

    go : (b : Bool) → has_name ns x ≡ b → Has f ns ⊎ ((f ≡ x) ⊎ Has f xs) → (Has f ns ⊎ Has f xs → Has f (with_each ns xs)) →
        (Has f (ns ++ x ∷ []) ⊎ Has f xs → Has f (with_each (ns ++ x ∷ []) xs)) → Has f (with_each (cond b ns (ns ++ x ∷ [])) xs)
    go true e (inl k) old new = old (inl k)
    go true e (inr (inl same)) old new = old (inl (subst (λ y. Has y ns) (sym same) (has_true ns x e)))
    go true e (inr (inr k)) old new = old (inr k)
    go false e (inl k) old new = new (inl (Has-left f ns (x ∷ []) k))
    go false e (inr (inl same)) old new = new (inl (subst (λ y. Has y (ns ++ x ∷ [])) (sym same) (Has-right x ns (x ∷ []) here)))
    go false e (inr (inr k)) old new = new (inr k)

-- and nothing else
pub with_each-only : (ns xs : List Name) (f : Name) → Has f (with_each ns xs) → Has f ns ⊎ Has f xs
with_each-only ns [] f h = inl h
with_each-only ns (x ∷ xs) f h = go (has_name ns x) h (with_each-only ns xs f) (with_each-only (ns ++ x ∷ []) xs f)
  where
    later : Has f ns ⊎ Has f xs → Has f ns ⊎ Has f (x ∷ xs)
    later (inl k) = inl k
    later (inr k) = inr (there k)

    split : Has f ns ⊎ Has f (x ∷ []) → Has f ns ⊎ Has f (x ∷ xs)
    split (inl k) = inl k
    split (inr k) = inr (subst (λ y. Has y (x ∷ xs)) (sym (Has-one f x k)) here)

    after : Has f (ns ++ x ∷ []) ⊎ Has f xs → Has f ns ⊎ Has f (x ∷ xs)
    after (inl k) = split (Has-either f ns (x ∷ []) k)
    after (inr k) = inr (there k)

    go : (b : Bool) → Has f (with_each (cond b ns (ns ++ x ∷ [])) xs) → (Has f (with_each ns xs) → Has f ns ⊎ Has f xs) →
        (Has f (with_each (ns ++ x ∷ []) xs) → Has f (ns ++ x ∷ []) ⊎ Has f xs) → Has f ns ⊎ Has f (x ∷ xs)
    go true k old new = later (old k)
    go false k old new = after (new k)

-- Where the name at a place of `all` was met first in a list: each one before it there stands before it among `all`.
abbrev pub IsMet : List Name → List Name → ℕ → Type 0
IsMet xs all i =
    (k : ℕ) × (k < length xs) × (slice_index_or xs k [] ≡ slice_index_or all i [])
    × ((j : ℕ) → j < k → (m : ℕ) × (m < i) × (slice_index_or all m [] ≡ slice_index_or xs j []))

-- a name more before those of the list, which was met earlier
met_later : (xs all : List Name) (x : Name) (i m : ℕ) → m < i → slice_index_or all m [] ≡ x → IsMet xs all i → IsMet (x ∷ xs) all i
met_later xs all x i m lt is r = (suc r.0, omega (arith, r.1), r.2, back r.0 r.3)
  where
    back : (k : ℕ) → ((j : ℕ) → j < k → (n : ℕ) × (n < i) × (slice_index_or all n [] ≡ slice_index_or xs j [])) →
        (j : ℕ) → j < suc k → (n : ℕ) × (n < i) × (slice_index_or all n [] ≡ slice_index_or (x ∷ xs) j [])
    back k f zero h = (m, lt, is)
    back k f (suc j) h = f j (omega arith)

-- the first of the list
met_here : (xs all : List Name) (x : Name) (i : ℕ) → slice_index_or all i [] ≡ x → IsMet (x ∷ xs) all i
met_here xs all x i is = (0, omega arith, sym is, λ j h. absurd (omega arith))

pub first_met : (ns xs : List Name) (i : ℕ) → length ns ≤ i → i < length (with_each ns xs) → IsMet xs (with_each ns xs) i
first_met ns [] i past h = absurd (omega arith)
first_met ns (x ∷ xs) i past h = go (bools (has_name ns x)) (cases_lt (length ns) i) (first_met ns xs i past) (first_met (ns ++ x ∷ []) xs i)
  where
    longer : length (ns ++ x ∷ []) ≡ length ns + 1
    longer = length-append ns (x ∷ [])

    at_end : slice_index_or (with_each (ns ++ x ∷ []) xs) (length ns) [] ≡ x
    at_end = with_each-front (ns ++ x ∷ []) xs (length ns) (omega (arith, length-append ns (x ∷ []))) ∙ get_or_at ns x [] [] (length ns) refl

    old_met : has_name ns x ≡ true → IsMet xs (with_each ns xs) i → IsMet (x ∷ xs) (with_each ns xs) i
    old_met e r =
        let p = Has-place x [] ns (has_true ns x e) in
        met_later xs (with_each ns xs) x i p.0 (omega (arith, p.1)) (with_each-front ns xs p.0 p.1 ∙ p.2) r

    new_met : (length ns < i) ⊎ (i ≤ length ns) → (length (ns ++ x ∷ []) ≤ i → IsMet xs (with_each (ns ++ x ∷ []) xs) i) → IsMet (x ∷ xs) (with_each (ns ++ x ∷ []) xs) i
    new_met (inl far) r = met_later xs (with_each (ns ++ x ∷ []) xs) x i (length ns) far at_end (r (omega (arith, longer)))
    new_met (inr near) r =
        let same : length ns ≡ i = omega arith in
        met_here xs (with_each (ns ++ x ∷ []) xs) x i (subst (λ m. slice_index_or (with_each (ns ++ x ∷ []) xs) m [] ≡ x) same at_end)

    go : (has_name ns x ≡ true) ⊎ (has_name ns x ≡ false) → (length ns < i) ⊎ (i ≤ length ns) →
        (i < length (with_each ns xs) → IsMet xs (with_each ns xs) i) →
        (length (ns ++ x ∷ []) ≤ i → i < length (with_each (ns ++ x ∷ []) xs) → IsMet xs (with_each (ns ++ x ∷ []) xs) i) →
        IsMet (x ∷ xs) (with_each (cond (has_name ns x) ns (ns ++ x ∷ [])) xs) i
    go (inl e) c old new =
        subst (λ b. IsMet (x ∷ xs) (with_each (cond b ns (ns ++ x ∷ [])) xs) i) (sym e)
        (old_met e (old (subst (λ b. i < length (with_each (cond b ns (ns ++ x ∷ [])) xs)) e h)))
    go (inr e) c old new =
        subst (λ b. IsMet (x ∷ xs) (with_each (cond b ns (ns ++ x ∷ [])) xs) i) (sym e)
        (new_met c (λ far. new far (subst (λ b. i < length (with_each (cond b ns (ns ++ x ∷ [])) xs)) e h)))

-- how often a name stands in a list
abbrev pub tally : Bool → ℕ
tally b = cond b 1 0

abbrev pub times : Name → List Name → ℕ
times x xs = sum_by (λ y. tally (bytes_eq x y)) xs

one_here : (x y : Name) → x ≡ y → tally (bytes_eq x y) ≡ 1
one_here x y e = ap tally (bytes_eq-refl x y e)

times_at : (x : Name) (xs : List Name) (i : ℕ) → i < length xs → slice_index_or xs i [] ≡ x → 1 ≤ times x xs
times_at x [] i h e = absurd (omega arith)
times_at x (y ∷ ys) zero h e = omega (arith, sum_by-cons (λ z. tally (bytes_eq x z)) y ys, one_here x y (sym e))
times_at x (y ∷ ys) (suc i) h e = omega (arith, sum_by-cons (λ z. tally (bytes_eq x z)) y ys, times_at x ys i (omega arith) e)

times_two : (x : Name) (xs : List Name) (i j : ℕ) → i < j → j < length xs → slice_index_or xs i [] ≡ x → slice_index_or xs j [] ≡ x → 2 ≤ times x xs
times_two x [] i j lt h e f = absurd (omega arith)
times_two x (y ∷ ys) i zero lt h e f = absurd (omega arith)
times_two x (y ∷ ys) zero (suc j) lt h e f =
    omega (arith, sum_by-cons (λ z. tally (bytes_eq x z)) y ys, one_here x y (sym e), times_at x ys j (omega arith) f)
times_two x (y ∷ ys) (suc i) (suc j) lt h e f =
    omega (arith, sum_by-cons (λ z. tally (bytes_eq x z)) y ys, times_two x ys i j (omega arith) (omega arith) e f)

pub distinct_from_times : (xs : List Name) → ((x : Name) → times x xs ≤ 1) → IsDistinct xs
distinct_from_times xs once i j lt h e =
    absurd (omega (arith, times_two (slice_index_or xs j []) xs i j lt h e refl, once (slice_index_or xs j [])))

times_none : (ns : List Name) (x : Name) → has_name ns x ≡ false → times x ns ≡ 0
times_none [] x h = refl
times_none (n ∷ ns) x h = go (bytes_eq x n) refl h (times_none ns x)
  where
    go : (b : Bool) → bytes_eq x n ≡ b → (b || has_name ns x) ≡ false → (has_name ns x ≡ false → times x ns ≡ 0) → times x (n ∷ ns) ≡ 0
    go true e k rest = absurd (let z : true ≡ false = k in cc)
    go false e k rest =
        let none : tally (bytes_eq x n) ≡ 0 = ap tally e in
        let after : times x ns ≡ 0 = rest k in
        omega (arith, sum_by-cons (λ z. tally (bytes_eq x z)) n ns)

pub times_with_each : (x : Name) (ns xs : List Name) → times x ns ≤ 1 → times x (with_each ns xs) ≤ 1
times_with_each x ns [] h = h
times_with_each x ns (y ∷ ys) h = go (has_name ns y) refl (times_with_each x ns ys h) (times_with_each x (ns ++ y ∷ []) ys)
  where
    more : has_name ns y ≡ false → (b : Bool) → bytes_eq x y ≡ b → times x (ns ++ y ∷ []) ≤ 1
    more e true k =
        let none : times x ns ≡ 0 = times_none ns x (ap (has_name ns) (bytes_eq-same x y k) ∙ e) in
        let one : tally (bytes_eq x y) ≡ 1 = ap tally k in
        omega (arith, sum_by_push (λ z. tally (bytes_eq x z)) ns y)
    more e false k =
        let none : tally (bytes_eq x y) ≡ 0 = ap tally k in
        omega (arith, sum_by_push (λ z. tally (bytes_eq x z)) ns y, h)

    go : (b : Bool) → has_name ns y ≡ b → times x (with_each ns ys) ≤ 1 → (times x (ns ++ y ∷ []) ≤ 1 → times x (with_each (ns ++ y ∷ []) ys) ≤ 1) →
        times x (with_each (cond b ns (ns ++ y ∷ [])) ys) ≤ 1
    go true e old new = old
    go false e old new = new (more e (bytes_eq x y) refl)

-- names in another order
pub moved_distinct : (xs ys : List Name) → IsPermutation xs ys → ((x : Name) → times x xs ≤ 1) → IsDistinct ys
moved_distinct xs ys p once = distinct_from_times ys (λ x. subst (λ n. n ≤ 1) (sym (sum_by-IsPermutation (λ z. tally (bytes_eq x z)) xs ys p)) (once x))

pub moved_has : (xs ys : List Name) → IsPermutation xs ys → (x : Name) → Has x xs → Has x ys
moved_has xs ys p x h =
    let r = Has-place x x xs h in
    let c = Contains-permutation xs ys x p (r.0, r.1, r.2) in
    subst (λ y. Has y ys) c.2 (Has-at ys c.0 x c.1)

-- strings in order are texts in order
pub texts_sorted : (xs : List (String Global)) → IsSorted string_cmp xs → IsSorted (slice_cmp nat_cmp) (texts xs)
texts_sorted [] s k d low h = absurd (omega arith)
texts_sorted (x ∷ xs) s k d low h =
    let size = length-map (x ∷ xs) string_bytes in
    let second : k + 1 < length (x ∷ xs) = omega (arith, size) in
    let first : k < length (x ∷ xs) = omega (arith, size) in
    ap (λ a. is_lt (slice_cmp nat_cmp a (slice_index_or (texts (x ∷ xs)) k d))) (get_or-map string_bytes (x ∷ xs) (k + 1) x d second)
    ∙ ap (λ b. is_lt (slice_cmp nat_cmp (string_bytes (slice_index_or (x ∷ xs) (k + 1) x)) b)) (get_or-map string_bytes (x ∷ xs) k x d first)
    ∙ s k x low second

pub features_of : (uses : List Use) → map (λ u. u.feature.now) uses ≡ map (λ u. u.feature) (map used_of uses)
features_of [] = refl
features_of (u ∷ us) = ap (λ l. u.feature.now ∷ l) (features_of us)

pub map-flat_map : {X Y Z : Type 0} (g : Y → Z) (f : X → List Y) (xs : List X) → map g (flat_map f xs) ≡ flat_map (λ x. map g (f x)) xs
map-flat_map g f [] = refl
map-flat_map g f (x ∷ xs) = map-append g (f x) (flat_map f xs) ∙ ap (λ l. map g (f x) ++ l) (map-flat_map g f xs)
