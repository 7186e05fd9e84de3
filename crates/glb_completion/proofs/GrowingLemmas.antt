-- The list of sets while it grows.
use Rattle.std.proofs.Common.{ℕ, zero, suc, ◌≡◌, ◌≢◌, ◌≤◌, ◌<◌, ◌+◌, ◌*◌, ◌&&◌, ◌||◌, ◌⊎◌, inl, inr, Bool, true, false, cond, List, [], ◌∷◌, ◌++◌, length, filter, take, slice_index_or, Vec, All, Contains, refl, sym, ◌∙◌, ap, subst, arith}
use Rattle.std.specs.Global.{Global}
use Rattle.std.specs.List.{list_all, list_any, range_with_len}
use Rattle.std.specs.Str.{bytes_eq}
use Rattle.std.proofs.lemmas.Bool.{cases_lt}
use Rattle.std.proofs.lemmas.List.{length-map, length-append, get_or_append_left, get_or_push, get_or-map, get_or_default, map-append, append_assoc, append-nil, take_more}
use Rattle.std.proofs.lemmas.Slice.Eq.{bytes_eq-Decides}
use Rattle.type_hierarchy.specs.Bits.{has_bit, bits_below, IsRow}
use Rattle.type_hierarchy.specs.Table.{TypeTable, set_of, has_member, intersection, common, IsIntersection, IsFamily}
use Rattle.type_hierarchy.specs.Laws.{IsRising, IsHierarchy}
use Rattle.type_hierarchy.specs.Inner.Reach.{lists}
use Rattle.type_hierarchy.specs.Inner.Tables.{sets_of, row_items}
use Rattle.type_hierarchy.proofs.SetLemmas.{differ, bool_cases, and_left, and_right, or_cases, member_bits, member_intersection, rising_filter, rising_below, rising_same, rising_intersection, filter_same, filter_twice, empty_of}
use Rattle.type_hierarchy.proofs.ListLemmas.{any_index, any_at}
use Rattle.type_hierarchy.proofs.TypeLemmas.{set_row, row_at_is, row_known, common_is}
use Rattle.type_hierarchy.proofs.RowLemmas.{push_all}
use Rattle.type_hierarchy.proofs.FamilyLemmas.{common-append, common_down}
use Rattle.glb_completion.specs.Completion.{most_completed, HasTooMany}
use Rattle.glb_completion.specs.Inner.Growing.{IsUpRow, set_at, IsAbove, IsGrowing, StartsWith, IsMet, IsSpread, Adds, was_there, is_pushed}

-- rows that are pushed
pub row_old : (keys : List (Vec ℕ Global)) (v : Vec ℕ Global) (k : ℕ) → k < length keys → row_items (keys ++ v ∷ []) k ≡ row_items keys k
row_old keys v k h = get_or-map (λ r. r.items) (keys ++ v ∷ []) k v [] (omega (arith, h, length-append keys (v ∷ []))) ∙ ap (λ r. r.items) (get_or_append_left keys (v ∷ []) v k h)
    ∙ sym (get_or-map (λ r. r.items) keys k v [] h)

pub row_new : (keys : List (Vec ℕ Global)) (v : Vec ℕ Global) (k : ℕ) → length keys ≡ k → row_items (keys ++ v ∷ []) k ≡ v.items
row_new keys v k h = get_or-map (λ r. r.items) (keys ++ v ∷ []) k v [] (omega (arith, h, length-append keys (v ∷ []))) ∙ ap (λ r. r.items) (get_or_push keys v v k h)

pub size_pushed : (keys new : List (Vec ℕ Global)) (v : Vec ℕ Global) → new ≡ keys ++ v ∷ [] → length new ≡ length keys + 1
size_pushed keys new v e = ap length e ∙ length-append keys (v ∷ []) ∙ ap (λ n. length keys + n) one
  where
    one : length (v ∷ []) ≡ 1
    one = omega arith

pub split : (k n : ℕ) → k < n + 1 → (k < n) ⊎ (n ≡ k)
split k n h = go (cases_lt k n)
  where
    go : (k < n) ⊎ (n ≤ k) → (k < n) ⊎ (n ≡ k)
    go (inl a) = inl a
    go (inr a) = inr (omega arith)

-- the set of a written type
pub own_set : (h : TypeTable) (laws : IsHierarchy h) (t : ℕ) (row : List ℕ) → t < h.written → ((x : ℕ) → x < h.written → has_bit row x ≡ has_member (set_of h t) x) → bits_below h.written row ≡ set_of h t
own_set h laws t row l e = rising_same h.written _ _ (rising_filter (λ x. has_bit row x) h.written) (laws.order.rising t (omega (arith, l, laws.order.written_first))) (λ x k. member_bits h.written row x k ∙ e x k)

pub own_common : (h : TypeTable) (laws : IsHierarchy h) (t : ℕ) → t < h.written → set_of h t ≡ common h (t ∷ [])
own_common h laws t l = laws.order.rising t (omega (arith, l, laws.order.written_first)) ∙ filter_same (has_member (set_of h t)) (λ x. has_member (set_of h t) x && true) 0 h.written (λ x low high. sym (and_true (has_member (set_of h t) x)))
  where
    and_true : (b : Bool) → (b && true) ≡ b
    and_true true = refl
    and_true false = refl

one_in : (n t : ℕ) → t < n → All (λ x. x < n) (t ∷ [])
one_in n t l zero d h = l
one_in n t l (suc k) d h = absurd (omega arith)

pub own_intersection : (h : TypeTable) (laws : IsHierarchy h) (t : ℕ) → t < h.written → IsIntersection h (set_of h t)
own_intersection h laws t l = record {
  types = t ∷ [];
  one = omega arith;
  in_range = one_in h.written t l;
  is_common = own_common h laws t l;
  nonempty = laws.order.nonempty t (omega (arith, l, laws.order.written_first));
}

both_in : (n : ℕ) (xs ys : List ℕ) → All (λ x. x < n) xs → All (λ x. x < n) ys → All (λ x. x < n) (xs ++ ys)
both_in n [] ys p q k d h = q k d h
both_in n (x ∷ xs) ys p q zero d h = p 0 d (omega arith)
both_in n (x ∷ xs) ys p q (suc k) d h = both_in n xs ys (λ i e l. p (suc i) e (omega arith)) q k d (omega arith)

-- an intersection with one more written type
pub narrowed : (h : TypeTable) (laws : IsHierarchy h) (set : List ℕ) (t : ℕ) → IsIntersection h set → t < h.written → intersection set (set_of h t) ≢ [] → IsIntersection h (intersection set (set_of h t))
narrowed h laws set t i l ne = record {
  types = t ∷ i.types;
  one = omega arith;
  in_range = both_in h.written (t ∷ []) i.types (one_in h.written t l) i.in_range;
  is_common = ap (λ s. intersection s (set_of h t)) i.is_common ∙ ap (intersection (common h i.types)) (own_common h laws t l) ∙ common-append h i.types (t ∷ []);
  nonempty = ne;
}

-- the row of what two rows have in common
pub common_set : (h : TypeTable) (laws : IsHierarchy h) (row key other : List ℕ) (t : ℕ) → t < h.written → ((x : ℕ) → has_bit row x ≡ (has_bit key x && has_bit other x)) →
    ((x : ℕ) → x < h.written → has_bit other x ≡ has_member (set_of h t) x) → bits_below h.written row ≡ intersection (bits_below h.written key) (set_of h t)
common_set h laws row key other t l e f = sym (ap (intersection (bits_below h.written key)) (sym (own_set h laws t other l f)) ∙ common_is h.written row key other e)

-- the list with one set more
pub record HasGrown (h : TypeTable) (keys above keys' above' : List (Vec ℕ Global)) (set : List ℕ) : Type 0 where
  pub growing : IsGrowing h keys' above'
  pub starts : StartsWith keys' keys
  pub has : Contains (sets_of h.written keys') set

pub grown : (h : TypeTable) (laws : IsHierarchy h) (keys above keys' above' : List (Vec ℕ Global)) (row more other : List ℕ) (at t : ℕ) → IsGrowing h keys above → at < length keys → t < h.written →
    IsRow h.written row → IsRow h.written more → ((x : ℕ) → has_bit row x ≡ (has_bit (row_items keys at) x && has_bit other x)) → ((x : ℕ) → x < h.written → has_bit other x ≡ has_member (set_of h t) x) →
    ((x : ℕ) → has_bit more x ≡ (has_bit (row_items above at) x || has_bit (row_items above t) x)) → intersection (set_at h keys at) (set_of h t) ≢ [] →
    Adds keys above keys' above' row more → HasGrown h keys above keys' above' (intersection (set_at h keys at) (set_of h t))
grown h laws keys above keys' above' row more other at t g in_at in_t r m e f u ne (was_there k l same is is') = record {
  growing = subst (λ a. IsGrowing h keys' a) (sym is') (subst (λ q. IsGrowing h q above) (sym is) g);
  starts = ([], is ∙ sym (append-nil keys));
  has = (
    k,
    omega (arith, l, ap length is, length-map keys' (λ x. bits_below h.written x.items)),
    get_or_default (sets_of h.written keys') k _ [] (omega (arith, l, ap length is, length-map keys' (λ x. bits_below h.written x.items)))
        ∙ ap (λ q. slice_index_or (sets_of h.written q) k []) is ∙ set_row h.written keys k l ∙ ap (bits_below h.written) same
        ∙ common_set h laws row (row_items keys at) other t in_t e f ∙ ap (λ s. intersection s (set_of h t)) (sym (set_row h.written keys at in_at)),
  );
}
grown h laws keys above keys' above' row more other at t g in_at in_t r m e f u ne (is_pushed v w v_is w_is new room is is') = record {
  growing = record {
    rows = push_all (λ x. IsRow h.written x.items) keys keys' v g.rows (subst (IsRow h.written) (sym v_is) r) is;
    above_rows = push_all (λ x. IsRow h.written x.items) above above' w g.above_rows (subst (IsRow h.written) (sym w_is) m) is';
    pairs = size_pushed above above' w is' ∙ ap (λ n. n + 1) g.pairs ∙ sym (size_pushed keys keys' v is);
    intersections = λ k l. intersections k (split k (length keys) (omega (arith, l, size)));
    distinct = λ i j l l'. distinct i j l (split j (length keys) (omega (arith, l', size, length-map keys' (λ x. bits_below h.written x.items))));
    enough = omega (arith, g.enough, size);
    written = λ k l. old_set k (omega (arith, l, g.enough)) ∙ g.written k l;
    up = λ k l u' l'. ap (λ q. has_bit q u') (old_above k (omega (arith, l, g.enough))) ∙ g.up k l u' l';
    sound = λ k l. sound k (split k (length keys) (omega (arith, l, size)));
    few = omega (arith, room, size);
  };
  starts = (v ∷ [], is);
  has = (
    length keys,
    omega (arith, size, length-map keys' (λ x. bits_below h.written x.items)),
    get_or_default (sets_of h.written keys') (length keys) _ [] (omega (arith, size, length-map keys' (λ x. bits_below h.written x.items))) ∙ new_set (length keys) refl,
  );
}
  where
    size : length keys' ≡ length keys + 1
    size = size_pushed keys keys' v is

    old_row : (k : ℕ) → k < length keys → row_items keys' k ≡ row_items keys k
    old_row k l = ap (λ q. row_items q k) is ∙ row_old keys v k l

    old_above : (k : ℕ) → k < length keys → row_items above' k ≡ row_items above k
    old_above k l = ap (λ q. row_items q k) is' ∙ row_old above w k (omega (arith, l, g.pairs))

    old_set : (k : ℕ) → k < length keys → set_at h keys' k ≡ set_at h keys k
    old_set k l = set_row h.written keys' k (omega (arith, l, size)) ∙ ap (bits_below h.written) (old_row k l) ∙ sym (set_row h.written keys k l)

    new_set : (k : ℕ) → length keys ≡ k → set_at h keys' k ≡ intersection (set_at h keys at) (set_of h t)
    new_set k l = set_row h.written keys' k (omega (arith, l, size)) ∙ ap (bits_below h.written) (ap (λ q. row_items q k) is ∙ row_new keys v k l ∙ v_is)
        ∙ common_set h laws row (row_items keys at) other t in_t e f ∙ ap (λ s. intersection s (set_of h t)) (sym (set_row h.written keys at in_at))

    intersections : (k : ℕ) → (k < length keys) ⊎ (length keys ≡ k) → IsIntersection h (set_at h keys' k)
    intersections k (inl l) = subst (IsIntersection h) (sym (old_set k l)) (g.intersections k l)
    intersections k (inr l) = subst (IsIntersection h) (sym (new_set k l)) (narrowed h laws (set_at h keys at) t (g.intersections at in_at) in_t ne)

    distinct : (i j : ℕ) → i < j → (j < length keys) ⊎ (length keys ≡ j) → slice_index_or (sets_of h.written keys') i [] ≢ slice_index_or (sets_of h.written keys') j []
    distinct i j l (inl k) same = g.distinct i j l (omega (arith, k, length-map keys (λ x. bits_below h.written x.items))) (sym (old_set i (omega arith)) ∙ same ∙ old_set j k)
    distinct i j l (inr k) same =
        let i_in : i < length keys = omega arith in
        let sets_same = sym (set_row h.written keys i i_in) ∙ sym (old_set i i_in) ∙ same ∙ set_row h.written keys' j (omega (arith, k, size)) ∙ ap (bits_below h.written) (ap (λ q. row_items q j) is ∙ row_new keys v j k ∙ v_is) in
        new i i_in (row_known h.written _ _ (row_at_is h.written keys i g.rows i_in) r sets_same)

    sound : (k : ℕ) → (k < length keys) ⊎ (length keys ≡ k) → IsAbove h (row_items keys' k) (row_items above' k)
    sound k (inl l) s s_in a x x_in b = g.sound k l s s_in (ap (λ q. has_bit q s) (sym (old_above k l)) ∙ a) x x_in (ap (λ q. has_bit q x) (sym (old_row k l)) ∙ b)
    sound k (inr l) s s_in a x x_in b = go (or_cases (has_bit (row_items above at) s) _ (sym (u s) ∙ ap (λ q. has_bit q s) (sym (ap (λ q. row_items q k) is' ∙ row_new above w k (g.pairs ∙ l) ∙ w_is)) ∙ a))
      where
        in_both : (has_bit (row_items keys at) x && has_bit other x) ≡ true
        in_both = sym (e x) ∙ ap (λ q. has_bit q x) (sym (ap (λ q. row_items q k) is ∙ row_new keys v k l ∙ v_is)) ∙ b

        go : (has_bit (row_items above at) s ≡ true) ⊎ (has_bit (row_items above t) s ≡ true) → has_member (set_of h s) x ≡ true
        go (inl c) = g.sound at in_at s s_in c x x_in (and_left (has_bit (row_items keys at) x) _ in_both)
        go (inr c) = laws.order.down t s x in_t (omega (arith, s_in, laws.order.written_first)) (sym (g.up t in_t s s_in) ∙ c) (sym (f x x_in) ∙ and_right (has_bit (row_items keys at) x) _ in_both)

-- more sets than may be
pub too_many : (h : TypeTable) (laws : IsHierarchy h) (keys above : List (Vec ℕ Global)) (row other : List ℕ) (at t : ℕ) → IsGrowing h keys above → at < length keys → t < h.written → IsRow h.written row →
    ((x : ℕ) → has_bit row x ≡ (has_bit (row_items keys at) x && has_bit other x)) → ((x : ℕ) → x < h.written → has_bit other x ≡ has_member (set_of h t) x) →
    intersection (set_at h keys at) (set_of h t) ≢ [] → ((k : ℕ) → k < length keys → row_items keys k ≢ row) → most_completed ≤ length keys → HasTooMany h
too_many h laws keys above row other at t g in_at in_t r e f ne new full = record {
  sets = sets_of h.written keys ++ intersection (set_at h keys at) (set_of h t) ∷ [];
  intersections = push_all (IsIntersection h) (sets_of h.written keys) _ _ (λ k d l. subst (IsIntersection h) (get_or_default (sets_of h.written keys) k [] d l) (g.intersections k (omega (arith, l, size))))
      (narrowed h laws (set_at h keys at) t (g.intersections at in_at) in_t ne) refl;
  distinct = λ i j l l'. distinct i j l (split j (length (sets_of h.written keys)) (omega (arith, l', length-append (sets_of h.written keys) (intersection (set_at h keys at) (set_of h t) ∷ []))));
  many = omega (arith, full, size, length-append (sets_of h.written keys) (intersection (set_at h keys at) (set_of h t) ∷ []));
}
  where
    size : length (sets_of h.written keys) ≡ length keys
    size = length-map keys (λ x. bits_below h.written x.items)

    new_is : bits_below h.written row ≡ intersection (set_at h keys at) (set_of h t)
    new_is = common_set h laws row (row_items keys at) other t in_t e f ∙ ap (λ s. intersection s (set_of h t)) (sym (set_row h.written keys at in_at))

    distinct : (i j : ℕ) → i < j → (j < length (sets_of h.written keys)) ⊎ (length (sets_of h.written keys) ≡ j) →
        slice_index_or (sets_of h.written keys ++ intersection (set_at h keys at) (set_of h t) ∷ []) i [] ≢ slice_index_or (sets_of h.written keys ++ intersection (set_at h keys at) (set_of h t) ∷ []) j []
    distinct i j l (inl k) same = g.distinct i j l k (sym (get_or_append_left (sets_of h.written keys) (intersection (set_at h keys at) (set_of h t) ∷ []) [] i (omega arith)) ∙ same ∙ get_or_append_left (sets_of h.written keys) (intersection (set_at h keys at) (set_of h t) ∷ []) [] j k)
    distinct i j l (inr k) same =
        let i_in : i < length keys = omega (arith, l, k, size) in
        new i i_in (row_known h.written _ _ (row_at_is h.written keys i g.rows i_in) r
        (sym (set_row h.written keys i i_in) ∙ sym (get_or_append_left (sets_of h.written keys) (intersection (set_at h keys at) (set_of h t) ∷ []) [] i (omega (arith, l, k))) ∙ same
        ∙ get_or_push (sets_of h.written keys) (intersection (set_at h keys at) (set_of h t)) [] j k ∙ sym new_is))

-- an intersection without a member
pub apart_met : (h : TypeTable) (laws : IsHierarchy h) (keys : List (Vec ℕ Global)) (at t : ℕ) → at < length keys → ((x : ℕ) → x < h.written → has_bit (row_items keys at) x ≡ true → has_member (set_of h t) x ≡ true → ⊥) → IsMet h keys at t
apart_met h laws keys at t in_at apart ne = absurd (ne (empty_of _ (λ x m.
    let both = sym (member_intersection (set_at h keys at) (set_of h t) x) ∙ m in
    let in_key = ap (λ s. has_member s x) (sym (set_row h.written keys at in_at)) ∙ and_right (has_member (set_of h t) x) _ both in
    let x_in = rising_below h.written _ x (rising_filter (λ y. has_bit (row_items keys at) y) h.written) in_key in
    apart x x_in (sym (member_bits h.written (row_items keys at) x x_in) ∙ in_key) (and_left (has_member (set_of h t) x) _ both))))

-- an intersection with a type in the set is that type's set
pub inner_met : (h : TypeTable) (laws : IsHierarchy h) (keys above : List (Vec ℕ Global)) (at t : ℕ) → IsGrowing h keys above → at < length keys → t < h.written → has_bit (row_items keys at) t ≡ true → IsMet h keys at t
inner_met h laws keys above at t g in_at in_t e ne = (
  t,
  omega (arith, in_t, g.enough, length-map keys (λ x. bits_below h.written x.items)),
  get_or_default (sets_of h.written keys) t _ [] (omega (arith, in_t, g.enough, length-map keys (λ x. bits_below h.written x.items))) ∙ g.written t in_t ∙ sym is,
)
  where
    i : IsIntersection h (set_at h keys at)
    i = g.intersections at in_at

    in_set : has_member (set_at h keys at) t ≡ true
    in_set = ap (λ s. has_member s t) (set_row h.written keys at in_at) ∙ member_bits h.written (row_items keys at) t in_t ∙ e

    sub : (x : ℕ) → has_member (set_of h t) x ≡ true → has_member (set_at h keys at) x ≡ true
    sub x m = subst (λ s. has_member s x ≡ true) (sym i.is_common)
        (common_down h laws.order i.types t x (λ k d l. let b = i.in_range k d l in omega (arith, b, laws.order.written_first)) in_t (subst (λ s. has_member s t ≡ true) i.is_common in_set) m)

    rising : IsRising h.written (set_at h keys at)
    rising = subst (IsRising h.written) (sym i.is_common) (rising_filter (λ x. list_all (λ u. has_member (set_of h u) x) i.types) h.written)

    is : intersection (set_at h keys at) (set_of h t) ≡ set_of h t
    is = rising_same h.written _ _ (rising_intersection h.written _ _ rising) (laws.order.rising t (omega (arith, in_t, laws.order.written_first)))
        (λ x l. member_intersection (set_at h keys at) (set_of h t) x ∙ implied (has_member (set_of h t) x) _ (sub x))
      where
        implied : (p q : Bool) → (p ≡ true → q ≡ true) → (p && q) ≡ p
        implied true q f = f refl
        implied false q f = refl

-- an intersection with a type above all of the set is the set
pub whole_met : (h : TypeTable) (keys above : List (Vec ℕ Global)) (at t : ℕ) → IsGrowing h keys above → at < length keys →
    ((x : ℕ) → x < h.written → has_bit (row_items keys at) x ≡ true → has_member (set_of h t) x ≡ true) → IsMet h keys at t
whole_met h keys above at t g in_at whole ne = (
  at,
  omega (arith, in_at, length-map keys (λ x. bits_below h.written x.items)),
  get_or_default (sets_of h.written keys) at _ [] (omega (arith, in_at, length-map keys (λ x. bits_below h.written x.items))) ∙ sym is,
)
  where
    i : IsIntersection h (set_at h keys at)
    i = g.intersections at in_at

    rising : IsRising h.written (set_at h keys at)
    rising = subst (IsRising h.written) (sym i.is_common) (rising_filter (λ x. list_all (λ u. has_member (set_of h u) x) i.types) h.written)

    sub : (x : ℕ) → x < h.written → has_member (set_at h keys at) x ≡ true → has_member (set_of h t) x ≡ true
    sub x l m = whole x l (sym (member_bits h.written (row_items keys at) x l) ∙ ap (λ s. has_member s x) (sym (set_row h.written keys at in_at)) ∙ m)

    is : intersection (set_at h keys at) (set_of h t) ≡ set_at h keys at
    is = rising_same h.written _ _ (rising_intersection h.written _ _ rising) rising
        (λ x l. member_intersection (set_at h keys at) (set_of h t) x ∙ implied (has_member (set_of h t) x) _ (sub x l))
      where
        and_true : (b : Bool) → (b && true) ≡ b
        and_true true = refl
        and_true false = refl

        implied : (p q : Bool) → (q ≡ true → p ≡ true) → (p && q) ≡ q
        implied p true f = and_true p ∙ f refl
        implied true false f = refl
        implied false false f = refl

pub outer_met : (h : TypeTable) (laws : IsHierarchy h) (keys above : List (Vec ℕ Global)) (at t : ℕ) → IsGrowing h keys above → at < length keys → t < h.written → has_bit (row_items above at) t ≡ true → IsMet h keys at t
outer_met h laws keys above at t g in_at in_t e = whole_met h keys above at t g in_at (λ x l m. g.sound at in_at t in_t e x l m)

-- what lasts while the list grows
pub still_in : (new old : List (Vec ℕ Global)) (k : ℕ) → StartsWith new old → k < length old → k < length new
still_in new old k s h = omega (arith, ap length s.1, length-append old s.0, h)

pub row_kept : (new old : List (Vec ℕ Global)) (k : ℕ) → StartsWith new old → k < length old → row_items new k ≡ row_items old k
row_kept new old k s h = ap (λ q. row_items q k) s.1 ∙ kept old s.0 k h
  where
    kept : (xs ys : List (Vec ℕ Global)) (i : ℕ) → i < length xs → row_items (xs ++ ys) i ≡ row_items xs i
    kept [] ys i l = absurd (omega arith)
    kept (x ∷ xs) ys zero l = refl
    kept (x ∷ xs) ys (suc i) l = kept xs ys i (omega arith)

pub set_kept : (h : TypeTable) (new old : List (Vec ℕ Global)) (k : ℕ) → StartsWith new old → k < length old → set_at h new k ≡ set_at h old k
set_kept h new old k s l = set_row h.written new k (still_in new old k s l) ∙ ap (bits_below h.written) (row_kept new old k s l) ∙ sym (set_row h.written old k l)

pub starts_on : (a b c : List (Vec ℕ Global)) → StartsWith b a → StartsWith c b → StartsWith c a
starts_on a b c s t = (s.0 ++ t.0, t.1 ∙ ap (λ q. q ++ t.0) s.1 ∙ append_assoc a s.0 t.0)

pub contains_on : (h : TypeTable) (new old : List (Vec ℕ Global)) (set : List ℕ) → StartsWith new old → Contains (sets_of h.written old) set → Contains (sets_of h.written new) set
contains_on h new old set s c =
    let l : c.0 < length old = omega (arith, c.1, length-map old (λ x. bits_below h.written x.items)) in
    let l' = still_in new old c.0 s l in
    let l'' : c.0 < length (sets_of h.written new) = omega (arith, l', length-map new (λ x. bits_below h.written x.items)) in
    (c.0, l'', get_or_default (sets_of h.written new) c.0 set [] l'' ∙ set_kept h new old c.0 s l ∙ get_or_default (sets_of h.written old) c.0 [] set c.1 ∙ c.2)

pub met_on : (h : TypeTable) (new old : List (Vec ℕ Global)) (at t : ℕ) → StartsWith new old → at < length old → IsMet h old at t → IsMet h new at t
met_on h new old at t s l m ne =
    let same = set_kept h new old at s l in
    subst (λ q. Contains (sets_of h.written new) (intersection q (set_of h t))) (sym same)
    (contains_on h new old _ s (m (λ e. ne (ap (λ q. intersection q (set_of h t)) same ∙ e))))

-- where everything was met, the list is the family
module _ (h : TypeTable) (laws : IsHierarchy h) (keys above : List (Vec ℕ Global)) (g : IsGrowing h keys above) (spread : (at : ℕ) → at < length keys → IsSpread h keys at) where
  narrow_in : (ts : List ℕ) (set : List ℕ) → All (λ t. t < h.written) ts → Contains (sets_of h.written keys) set → filter (λ x. list_all (λ t. has_member (set_of h t) x) ts) set ≢ [] →
      Contains (sets_of h.written keys) (filter (λ x. list_all (λ t. has_member (set_of h t) x) ts) set)
  narrow_in [] set ts_in c ne = subst (Contains (sets_of h.written keys)) (sym (keep_all set)) c
    where
      keep_all : (xs : List ℕ) → filter (λ x. true) xs ≡ xs
      keep_all [] = refl
      keep_all (x ∷ xs) = ap (λ l. x ∷ l) (keep_all xs)
  narrow_in (t ∷ ts) set ts_in c ne = go (λ q k n. narrow_in ts q (λ i d l. ts_in (suc i) d (omega arith)) k n)
    where
      in_t : t < h.written
      in_t = ts_in 0 0 (omega arith)

      at_in : c.0 < length keys
      at_in = omega (arith, c.1, length-map keys (λ x. bits_below h.written x.items))

      set_is : set_at h keys c.0 ≡ set
      set_is = get_or_default (sets_of h.written keys) c.0 [] set c.1 ∙ c.2

      split_is : filter (λ x. list_all (λ u. has_member (set_of h u) x) (t ∷ ts)) set ≡ filter (λ x. list_all (λ u. has_member (set_of h u) x) ts) (intersection set (set_of h t))
      split_is = sym (filter_twice (λ x. list_all (λ u. has_member (set_of h u) x) ts) (has_member (set_of h t)) set ∙ both set)
        where
          swap : (p q : Bool) → (p && q) ≡ (q && p)
          swap true true = refl
          swap true false = refl
          swap false true = refl
          swap false false = refl

          both : (xs : List ℕ) → filter (λ x. list_all (λ u. has_member (set_of h u) x) ts && has_member (set_of h t) x) xs ≡ filter (λ x. has_member (set_of h t) x && list_all (λ u. has_member (set_of h u) x) ts) xs
          both [] = refl
          both (x ∷ xs) = ap (λ b. cond b (x ∷ filter (λ y. list_all (λ u. has_member (set_of h u) y) ts && has_member (set_of h t) y) xs) (filter (λ y. list_all (λ u. has_member (set_of h u) y) ts && has_member (set_of h t) y) xs)) (swap (list_all (λ u. has_member (set_of h u) x) ts) (has_member (set_of h t) x))
              ∙ ap (λ l. cond (has_member (set_of h t) x && list_all (λ u. has_member (set_of h u) x) ts) (x ∷ l) l) (both xs)

      first : intersection set (set_of h t) ≢ []
      first e = ne (split_is ∙ ap (filter (λ x. list_all (λ u. has_member (set_of h u) x) ts)) e)

      met : Contains (sets_of h.written keys) (intersection set (set_of h t))
      met = subst (λ q. Contains (sets_of h.written keys) (intersection q (set_of h t))) set_is (spread c.0 at_in t in_t (λ e. first (ap (λ q. intersection q (set_of h t)) (sym set_is) ∙ e)))

      go : ((q : List ℕ) → Contains (sets_of h.written keys) q → filter (λ x. list_all (λ u. has_member (set_of h u) x) ts) q ≢ [] → Contains (sets_of h.written keys) (filter (λ x. list_all (λ u. has_member (set_of h u) x) ts) q)) →
          Contains (sets_of h.written keys) (filter (λ x. list_all (λ u. has_member (set_of h u) x) (t ∷ ts)) set)
      go ih = subst (Contains (sets_of h.written keys)) (sym split_is) (ih (intersection set (set_of h t)) met (λ e. ne (split_is ∙ e)))

  whole : (ts : List ℕ) → 0 < length ts → All (λ t. t < h.written) ts → common h ts ≢ [] → Contains (sets_of h.written keys) (common h ts)
  whole [] one ts_in ne = absurd (omega arith)
  whole (t ∷ ts) one ts_in ne = subst (Contains (sets_of h.written keys)) is (narrow_in ts (set_of h t) (λ i d l. ts_in (suc i) d (omega arith)) own (λ e. ne (sym is ∙ e)))
    where
      in_t : t < h.written
      in_t = ts_in 0 0 (omega arith)

      size : t < length (sets_of h.written keys)
      size = omega (arith, in_t, g.enough, length-map keys (λ x. bits_below h.written x.items))

      own : Contains (sets_of h.written keys) (set_of h t)
      own = (t, size, get_or_default (sets_of h.written keys) t _ [] size ∙ g.written t in_t)

      swap : (p q : Bool) → (p && q) ≡ (q && p)
      swap true true = refl
      swap true false = refl
      swap false true = refl
      swap false false = refl

      is : filter (λ x. list_all (λ u. has_member (set_of h u) x) ts) (set_of h t) ≡ common h (t ∷ ts)
      is = ap (filter (λ x. list_all (λ u. has_member (set_of h u) x) ts)) (laws.order.rising t (omega (arith, in_t, laws.order.written_first)))
          ∙ filter_twice (λ x. list_all (λ u. has_member (set_of h u) x) ts) (has_member (set_of h t)) (range_with_len 0 h.written)
          ∙ filter_same (λ x. list_all (λ u. has_member (set_of h u) x) ts && has_member (set_of h t) x) (λ x. has_member (set_of h t) x && list_all (λ u. has_member (set_of h u) x) ts) 0 h.written
          (λ x low high. swap (list_all (λ u. has_member (set_of h u) x) ts) (has_member (set_of h t) x))

  pub family_is : IsFamily h (sets_of h.written keys)
  family_is = record {
    intersections = λ k d l. subst (IsIntersection h) (get_or_default (sets_of h.written keys) k [] d l) (g.intersections k (omega (arith, l, length-map keys (λ x. bits_below h.written x.items))));
    whole = λ members i. subst (Contains (sets_of h.written keys)) (sym i.is_common) (whole i.types i.one i.in_range (λ e. i.nonempty (i.is_common ∙ e)));
    once = g.distinct;
  }

-- the first sets, of the written types in turn
pub record IsBeginning (h : TypeTable) (keys above : List (Vec ℕ Global)) (t : ℕ) : Type 0 where
  pub rows : All (λ row. IsRow h.written row.items) keys
  pub above_rows : All (λ row. IsRow h.written row.items) above
  pub size : length keys ≡ t
  pub pairs : length above ≡ h.written
  pub within : t ≤ h.written
  pub sets : (k : ℕ) → k < t → bits_below h.written (row_items keys k) ≡ set_of h k
  pub up : (k : ℕ) → k < h.written → IsUpRow h k (row_items above k)

pub begins : (h : TypeTable) (keys above : List (Vec ℕ Global)) → keys ≡ [] → All (λ row. IsRow h.written row.items) above → length above ≡ h.written →
    ((k : ℕ) → k < h.written → IsUpRow h k (row_items above k)) → IsBeginning h keys above 0
begins h keys above e r size u = record {
  rows = λ k d l. absurd (omega (arith, l, ap length e));
  above_rows = r;
  size = ap length e;
  pairs = size;
  within = omega arith;
  sets = λ k l. absurd (omega arith);
  up = u;
}

-- the row of a written type is new
pub begins_new : (h : TypeTable) (laws : IsHierarchy h) (keys above : List (Vec ℕ Global)) (t : ℕ) (row : List ℕ) → IsBeginning h keys above t → t < h.written →
    ((x : ℕ) → x < h.written → has_bit row x ≡ has_member (set_of h t) x) → list_any (λ k. bytes_eq row k.items) keys ≡ false
begins_new h laws keys above t row b in_t e = go (bool_cases (list_any (λ k. bytes_eq row k.items) keys))
  where
    go : (list_any (λ k. bytes_eq row k.items) keys ≡ true) ⊎ (list_any (λ k. bytes_eq row k.items) keys ≡ false) → list_any (λ k. bytes_eq row k.items) keys ≡ false
    go (inr f) = f
    go (inl f) = found (slice_index_or keys) f
      where
        found : (ℕ → Vec ℕ Global → Vec ℕ Global) → list_any (λ k. bytes_eq row k.items) keys ≡ true → list_any (λ k. bytes_eq row k.items) keys ≡ false
        found _ f' = absurd (none keys b.size b.sets f')
          where
            none : (ks : List (Vec ℕ Global)) → length ks ≡ t → ((k : ℕ) → k < t → bits_below h.written (row_items ks k) ≡ set_of h k) → list_any (λ k. bytes_eq row k.items) ks ≡ true → ⊥
            none [] size sets g = differ _ g refl
            none (k ∷ ks) size sets g =
                let i = any_index (λ v. bytes_eq row v.items) k (k ∷ ks) g in
                let same = (bytes_eq-Decides row (slice_index_or (k ∷ ks) i.0 k).items).0 i.2 in
                let l : i.0 < t = omega (arith, i.1, size) in
                laws.order.distinct i.0 t l (omega (arith, in_t, laws.order.written_first))
                (sym (sets i.0 l) ∙ ap (bits_below h.written) (get_or-map (λ r. r.items) (k ∷ ks) i.0 k [] i.1 ∙ sym same) ∙ own_set h laws t row in_t e)

pub begins_more : (h : TypeTable) (laws : IsHierarchy h) (keys above keys' : List (Vec ℕ Global)) (t : ℕ) (row : Vec ℕ Global) → IsBeginning h keys above t → t < h.written →
    IsRow h.written row.items → ((x : ℕ) → x < h.written → has_bit row.items x ≡ has_member (set_of h t) x) → keys' ≡ keys ++ row ∷ [] → IsBeginning h keys' above (t + 1)
begins_more h laws keys above keys' t row b in_t r e is = record {
  rows = push_all (λ x. IsRow h.written x.items) keys keys' row b.rows r is;
  above_rows = b.above_rows;
  size = size_pushed keys keys' row is ∙ ap (λ n. n + 1) b.size;
  pairs = b.pairs;
  within = omega arith;
  sets = λ k l. sets k (split k t l);
  up = b.up;
}
  where
    sets : (k : ℕ) → (k < t) ⊎ (t ≡ k) → bits_below h.written (row_items keys' k) ≡ set_of h k
    sets k (inl l) = ap (bits_below h.written) (ap (λ q. row_items q k) is ∙ row_old keys row k (omega (arith, l, b.size))) ∙ b.sets k l
    sets k (inr l) = ap (bits_below h.written) (ap (λ q. row_items q k) is ∙ row_new keys row k (b.size ∙ l)) ∙ own_set h laws t row.items in_t e ∙ ap (set_of h) l

pub begun : (h : TypeTable) (laws : IsHierarchy h) (keys above : List (Vec ℕ Global)) (t : ℕ) → IsBeginning h keys above t → h.written ≤ t → IsGrowing h keys above
begun h laws keys above t b all = record {
  rows = b.rows;
  above_rows = b.above_rows;
  pairs = omega (arith, b.pairs, b.size, all, b.within);
  intersections = λ k l. subst (IsIntersection h) (sym (set_is k l)) (own_intersection h laws k (omega (arith, l, b.size, b.within)));
  distinct = λ i j l l' e.
      let j_in : j < length keys = omega (arith, l', length-map keys (λ x. bits_below h.written x.items)) in
      laws.order.distinct i j l (omega (arith, j_in, b.size, b.within, laws.order.written_first)) (sym (set_is i (omega arith)) ∙ e ∙ set_is j j_in);
  enough = omega (arith, b.size, all);
  written = λ k l. set_is k (omega (arith, l, b.size, all));
  up = b.up;
  sound = λ k l t' in_t a x in_x m.
      let k_in : k < h.written = omega (arith, l, b.size, b.within) in
      laws.order.down k t' x k_in (omega (arith, in_t, laws.order.written_first)) (sym (b.up k k_in t' in_t) ∙ a)
      (ap (λ s. has_member s x) (sym (b.sets k (omega (arith, l, b.size)))) ∙ member_bits h.written (row_items keys k) x in_x ∙ m);
  few = omega (arith, b.size, b.within, laws.few);
}
  where
    set_is : (k : ℕ) → k < length keys → set_at h keys k ≡ set_of h k
    set_is k l = set_row h.written keys k l ∙ b.sets k (omega (arith, l, b.size))

-- a row as the code reads it
pub row_seen : (keys now : List (Vec ℕ Global)) (k : ℕ) (v : Vec ℕ Global) (set : List ℕ) → now ≡ keys → k < length keys → v ≡ slice_index_or now k v → set ≡ v.items → set ≡ row_items keys k
row_seen keys now k v set e h is s = s ∙ ap (λ r. r.items) (is ∙ ap (λ q. slice_index_or q k v) e) ∙ sym (get_or-map (λ r. r.items) keys k v [] h)

pub is_among : (keys : List (Vec ℕ Global)) (row : List ℕ) → list_any (λ k. bytes_eq row k.items) keys ≡ true → (k : ℕ) × (k < length keys) × (row_items keys k ≡ row)
is_among [] row e = absurd (differ _ e refl)
is_among (v ∷ keys) row e =
    let i = any_index (λ k. bytes_eq row k.items) v (v ∷ keys) e in
    (i.0, i.1, get_or-map (λ r. r.items) (v ∷ keys) i.0 v [] i.1 ∙ sym ((bytes_eq-Decides row (slice_index_or (v ∷ keys) i.0 v).items).0 i.2))

pub isnt_among : (keys : List (Vec ℕ Global)) (row : List ℕ) → list_any (λ k. bytes_eq row k.items) keys ≡ false → (k : ℕ) → k < length keys → row_items keys k ≢ row
isnt_among [] row e k h f = omega arith
isnt_among (v ∷ keys) row e k h f =
    differ _ (any_at (λ r. bytes_eq row r.items) (v ∷ keys) k v h ((bytes_eq-Decides row (slice_index_or (v ∷ keys) k v).items).1 (sym f ∙ get_or-map (λ r. r.items) (v ∷ keys) k v [] h))) e

pub lists_push : (n : ℕ) (rows members new : List (Vec ℕ Global)) (i : ℕ) (row m : Vec ℕ Global) → i < length rows → row ≡ slice_index_or rows i row → m.items ≡ bits_below n row.items →
    lists members ≡ sets_of n (take i rows) → new ≡ members ++ m ∷ [] → lists new ≡ sets_of n (take (i + 1) rows)
lists_push n rows members new i row m h here is old grown =
    ap lists grown ∙ map-append (λ v. v.items) members (m ∷ []) ∙ ap (λ l. l ++ m.items ∷ []) old ∙ ap (λ x. sets_of n (take i rows) ++ x ∷ []) (is ∙ ap (λ v. bits_below n v.items) here)
    ∙ sym (ap (sets_of n) (take_more rows i row h) ∙ map-append (λ v. bits_below n v.items) (take i rows) (slice_index_or rows i row ∷ []))

pub row_bits : (h : TypeTable) (keys : List (Vec ℕ Global)) (k t : ℕ) → All (λ row. IsRow h.written row.items) keys → k < length keys → t < h.written → t < 64 * length (row_items keys k)
row_bits h keys k t rows h' in_t = let r = row_at_is h.written keys k rows h' in omega (arith, r.enough, in_t)
