-- Statements have one hierarchy, and a hierarchy has one completion.
use Rattle.std.proofs.Common.{ℕ, zero, suc, ◌≡◌, ◌≢◌, ◌≤◌, ◌<◌, ◌+◌, ◌-◌, ◌⊎◌, inl, inr, Bool, true, false, List, [], ◌∷◌, ◌++◌, length, get_or, All, Contains, refl, sym, ◌∙◌, ap, subst, arith, Ordering}
use Rattle.std.specs.Cmp.{IsEquivalence, IsTotalOrder}
use Rattle.std.specs.Cmp.Lexicographic.{slice_cmp}
use Rattle.std.specs.List.{IsDistinct as IsDistinctBy, AllByRecursion, list_any}
use Rattle.std.specs.List.Sorted.{IsSorted}
use Rattle.std.specs.Ordering.{nat_cmp, is_lt, is_eq, ordering_reverse}
use Rattle.std.specs.declared.cmp.Ordering.TheVariants.{Less, Equal, Greater}
use Rattle.std.specs.Str.{bytes_eq}
use Rattle.std.proofs.lemmas.Bool.{cases_lt}
use Rattle.std.proofs.lemmas.Cmp.{nat_list_cmp_total}
use Rattle.std.proofs.lemmas.List.{get_or_append_left, get_or-append-add, get_or_default, same_lists, length-append}
use Rattle.std.proofs.lemmas.List.Elements.{All-get_or, Contains-append_cases}
use Rattle.std.proofs.lemmas.List.Sorted.{sorted_far, ranks_by}
use Rattle.std.proofs.lemmas.Map.Made.{length-le_from_is_member}
use Rattle.std.proofs.lemmas.Map.Text.{is_eq-slice_cmp}
use Rattle.type_hierarchy.specs.Decls.{Name, Declared, number_of}
use Rattle.type_hierarchy.specs.Laws.{IsHierarchy, IsRising}
use Rattle.type_hierarchy.specs.Table.{TypeTable, IsHierarchyOf, IsFamily, IsIntersection, IsDistinct, set_of, has_member, table_of}
use Rattle.type_hierarchy.proofs.ListLemmas.{any_at, any_index}
use Rattle.type_hierarchy.proofs.SetLemmas.{same_bools, rising_same}
use Rattle.glb_completion.specs.Completion.{IsCompletionOf, HasTooMany, most_completed}
use Rattle.grammar_types.proofs.SettleLists.{bools, true_not_false, bytes_eq-same, bytes_eq-refl, bytes_eq-swap}

abbrev made : List Name → List (List ℕ) → ℕ → ℕ → TypeTable
made names sets written string = record { names = names; sets = sets; written = written; string_type = string }

same_tables : (h g : TypeTable) → h.names ≡ g.names → h.sets ≡ g.sets → h.written ≡ g.written → h.string_type ≡ g.string_type → h ≡ g
same_tables h g a b c d =
    ap (λ n. made n h.sets h.written h.string_type) a ∙ ap (λ s. made g.names s h.written h.string_type) b ∙ ap (λ m. made g.names g.sets m h.string_type) c
    ∙ ap (λ m. made g.names g.sets g.written m) d

-- sets as the hierarchies have them
pub one_hierarchy : (top text : Name) (ds : List Declared) (h g : TypeTable) → IsHierarchyOf top text ds h → IsHierarchyOf top text ds g → IsHierarchy h → IsHierarchy g → h ≡ g
one_hierarchy top text ds h g a b p q = same_tables h g names sets written string
  where
    names : h.names ≡ g.names
    names = a.names_are ∙ sym b.names_are

    size : length h.names ≡ length g.names
    size = ap length names

    written : h.written ≡ g.written
    written = a.all_written ∙ size ∙ sym b.all_written

    string : h.string_type ≡ g.string_type
    string = a.string_is ∙ ap (λ ns. number_of ns text) names ∙ sym b.string_is

    member : (k x : ℕ) → k < h.written → x < h.written → has_member (set_of h k) x ≡ has_member (set_of g k) x
    member k x i j =
        same_bools _ _ (λ e. (b.sets_are x k (omega (arith, written)) (omega (arith, written))).1 ((a.sets_are x k j i).0 e))
        (λ e. (a.sets_are x k j i).1 ((b.sets_are x k (omega (arith, written)) (omega (arith, written))).0 e))

    one_set : (k : ℕ) → k < length h.sets → set_of h k ≡ set_of g k
    one_set k i =
        let within : k < length g.sets = omega (arith, a.one_each, b.one_each, size) in
        let inside : k < h.written = omega (arith, a.one_each, a.all_written) in
        rising_same h.written (set_of h k) (set_of g k) (p.order.rising k i) (subst (λ n. IsRising n (set_of g k)) (sym written) (q.order.rising k within)) (λ x j. member k x inside j)

    sets : h.sets ≡ g.sets
    sets = same_lists h.sets g.sets (a.one_each ∙ size ∙ sym b.one_each)
        (λ k d i. get_or_default h.sets k d [] i ∙ one_set k i ∙ get_or_default g.sets k [] d (omega (arith, a.one_each, b.one_each, size)))

compare : List ℕ → List ℕ → Ordering
compare = slice_cmp nat_cmp

-- each is below those after it
Rises : List (List ℕ) → Type 0
Rises xs = (i j : ℕ) → i < j → j < length xs → compare (get_or xs i []) (get_or xs j []) ≡ Less

In : List (List ℕ) → List ℕ → Type 0
In xs z = (k : ℕ) × (k < length xs) × (get_or xs k [] ≡ z)

not_less : (z : List ℕ) → compare z z ≡ Less → ⊥
unfolding compare
not_less z e = differ (sym e ∙ nat_list_cmp_total.antisymm z z ∙ ap ordering_reverse e)
  where
    differ : Less ≡ Greater → ⊥
    differ k = cc

not_both_less : (x y : List ℕ) → compare x y ≡ Less → compare y x ≡ Less → ⊥
unfolding compare
not_both_less x y e f = differ (sym f ∙ nat_list_cmp_total.antisymm y x ∙ ap ordering_reverse e)
  where
    differ : Less ≡ Greater → ⊥
    differ k = cc

apart_sorted : (x y : List ℕ) → is_lt (compare y x) ≡ false → (x ≡ y → ⊥) → compare x y ≡ Less
unfolding compare
apart_sorted x y e apart = go (slice_cmp nat_cmp y x) refl
  where
    go : (o : Ordering) → slice_cmp nat_cmp y x ≡ o → slice_cmp nat_cmp x y ≡ Less
    go Less k = true_not_false (is_lt (slice_cmp nat_cmp y x)) (ap is_lt k) e
    go Equal k = absurd (apart (sym (bytes_eq-same y x (sym (is_eq-slice_cmp y x) ∙ ap is_eq k))))
    go Greater k = nat_list_cmp_total.antisymm x y ∙ ap ordering_reverse k

rises : (xs : List (List ℕ)) → IsSorted (slice_cmp nat_cmp) xs → IsDistinct xs → Rises xs
unfolding Rises compare
rises xs up apart i j a b = apart_sorted (get_or xs i []) (get_or xs j []) (sorted_far _ (ranks_by nat_list_cmp_total (λ x. x)) xs up i j [] (omega arith) b) (apart i j a b)

rises_tail : (x : List ℕ) (xs : List (List ℕ)) → Rises (x ∷ xs) → Rises xs
unfolding Rises
rises_tail x xs r i j a b = r (suc i) (suc j) (omega arith) (omega arith)

-- what is in a list without its head
in_tail : (x y z : List ℕ) (xs ys : List (List ℕ)) → Rises (x ∷ xs) → x ≡ y → ((w : List ℕ) → In (x ∷ xs) w → In (y ∷ ys) w) → In xs z → In ys z
unfolding Rises In
in_tail x y z xs ys r same has m = go (has z (suc m.0, omega (arith, m.1), m.2))
  where
    go : In (y ∷ ys) z → In ys z
    go (zero, l, e) = absurd (not_less z (subst (λ w. compare w z ≡ Less) (same ∙ e) (subst (λ w. compare x w ≡ Less) m.2 (r 0 (suc m.0) (omega arith) (omega (arith, m.1))))))
    go (suc k, l, e) = (k, omega (arith, l), e)

one_head : (x y : List ℕ) (xs ys : List (List ℕ)) → Rises (x ∷ xs) → Rises (y ∷ ys) → In (y ∷ ys) x → In (x ∷ xs) y → x ≡ y
unfolding Rises In
one_head x y xs ys r s (zero, h, e) n = sym e
one_head x y xs ys r s (suc k, h, e) (zero, l, f) = f
one_head x y xs ys r s (suc k, h, e) (suc j, l, f) =
    absurd (not_both_less x y (subst (λ w. compare x w ≡ Less) f (r 0 (suc j) (omega arith) l)) (subst (λ w. compare y w ≡ Less) e (s 0 (suc k) (omega arith) h)))

one_list : (xs ys : List (List ℕ)) → Rises xs → Rises ys → ((z : List ℕ) → In xs z → In ys z) → ((z : List ℕ) → In ys z → In xs z) → xs ≡ ys
unfolding In
one_list [] [] r s f g = refl
one_list [] (y ∷ ys) r s f g = absurd (let m = g y (0, omega arith, refl) in let l : m.0 < 0 = m.1 in omega arith)
one_list (x ∷ xs) [] r s f g = absurd (let m = f x (0, omega arith, refl) in let l : m.0 < 0 = m.1 in omega arith)
one_list (x ∷ xs) (y ∷ ys) r s f g =
    let same : x ≡ y = one_head x y xs ys r s (f x (0, omega arith, refl)) (g y (0, omega arith, refl)) in
    let rest : xs ≡ ys = one_list xs ys (rises_tail x xs r) (rises_tail y ys s) (λ z. in_tail x y z xs ys r same f) (λ z. in_tail y x z ys xs s (sym same) g) in
    ap (λ w. w ∷ xs) same ∙ ap (λ l. y ∷ l) rest

distinct_right : (first xs : List (List ℕ)) → IsDistinct (first ++ xs) → IsDistinct xs
distinct_right first xs apart i j a b e =
    apart (length first + i) (length first + j) (omega arith) (omega (arith, length-append first xs)) (get_or-append-add first xs i [] ∙ e ∙ sym (get_or-append-add first xs j []))

-- a set that one completion adds, another adds
added_in : (h : TypeTable) (xs ys : List (List ℕ)) → IsFamily h (h.sets ++ xs) → IsFamily h (h.sets ++ ys) → (z : List ℕ) → In xs z → In ys z
unfolding In
added_in h xs ys f g z m = go (Contains-append_cases h.sets ys z (g.whole z here))
  where
    at : get_or (h.sets ++ xs) (length h.sets + m.0) [] ≡ z
    at = get_or-append-add h.sets xs m.0 [] ∙ m.2

    within : length h.sets + m.0 < length (h.sets ++ xs)
    within = omega (arith, length-append h.sets xs, m.1)

    here : IsIntersection h z
    here = subst (IsIntersection h) at (All-get_or (IsIntersection h) (h.sets ++ xs) (length h.sets + m.0) [] within f.intersections)

    go : Contains h.sets z ⊎ Contains ys z → In ys z
    go (inl c) = absurd (f.once c.0 (length h.sets + m.0) (omega (arith, c.1)) within
        (get_or_append_left h.sets xs [] c.0 c.1 ∙ get_or_default h.sets c.0 [] z c.1 ∙ c.2 ∙ sym at))
    go (inr c) = (c.0, c.1, get_or_default ys c.0 [] z c.1 ∙ c.2)

pub one_completion : (h : TypeTable) (strings : List Name) (t u : TypeTable) → IsCompletionOf h strings t → IsCompletionOf h strings u → t ≡ u
one_completion h strings t u a b =
    a.table_is ∙ ap (λ added. table_of h added strings)
    (one_list a.added b.added (rises a.added a.in_order (distinct_right h.sets a.added a.family.once)) (rises b.added b.in_order (distinct_right h.sets b.added b.family.once))
    (added_in h a.added b.added a.family b.family) (added_in h b.added a.added b.family a.family))
    ∙ sym b.table_is

bytes_same : IsEquivalence bytes_eq
bytes_same = record {
  refl = λ x. bytes_eq-refl x x refl;
  symm = bytes_eq-swap;
  congr = λ x y z e. ap (λ w. bytes_eq w z) (bytes_eq-same x y e);
}

apart_from : (x : List ℕ) (xs : List (List ℕ)) → ((j : ℕ) → j < length xs → x ≡ get_or xs j [] → ⊥) → AllByRecursion (λ y. bytes_eq x y ≡ false) xs
apart_from x [] h = tt
apart_from x (y ∷ ys) h = (go (bools (bytes_eq x y)), apart_from x ys (λ j l e. h (suc j) (omega (arith, l)) e))
  where
    go : (bytes_eq x y ≡ true) ⊎ (bytes_eq x y ≡ false) → bytes_eq x y ≡ false
    go (inl e) = absurd (h 0 (omega arith) (bytes_eq-same x y e))
    go (inr e) = e

distinct_by : (xs : List (List ℕ)) → IsDistinct xs → IsDistinctBy bytes_eq xs
unfolding IsDistinctBy
distinct_by [] h = tt
distinct_by (x ∷ xs) h = (apart_from x xs (λ j l e. h 0 (suc j) (omega arith) (omega (arith, l)) e), distinct_by xs (λ i j a b e. h (suc i) (suc j) (omega arith) (omega (arith, b)) e))

-- sets that are all in a list, each once, are no more than it has
pub no_more : (h : TypeTable) (sets all : List (List ℕ)) → IsDistinct sets → All (IsIntersection h) sets → IsFamily h all → length sets ≤ length all
no_more h sets all apart are f = length-le_from_is_member bytes_same sets all (distinct_by sets apart) member
  where
    member : (q : List ℕ) → list_any (bytes_eq q) sets ≡ true → list_any (bytes_eq q) all ≡ true
    member q e =
        let m = any_index (bytes_eq q) [] sets e in
        let is : q ≡ get_or sets m.0 [] = bytes_eq-same q (get_or sets m.0 []) m.2 in
        let c = f.whole q (subst (IsIntersection h) (sym is) (All-get_or (IsIntersection h) sets m.0 [] m.1 are)) in
        any_at (bytes_eq q) all c.0 q c.1 (bytes_eq-refl q (get_or all c.0 q) (sym c.2))

pub not_too_many : (h : TypeTable) (strings : List Name) (t : TypeTable) → IsCompletionOf h strings t → HasTooMany h → ⊥
not_too_many h strings t a m =
    let most = no_more h m.sets (h.sets ++ a.added) m.distinct m.intersections a.family in
    absurd (omega (arith, a.few, m.many))
