-- Types of one kind have the same in common with a set.
use Rattle.std.proofs.Common.{ℕ, zero, suc, ◌≡◌, ◌≢◌, ◌≤◌, ◌<◌, ◌+◌, ◌*◌, ◌/◌, ◌%◌, ◌&&◌, ◌==◌, ◌⊎◌, inl, inr, Bool, true, false, not, List, [], ◌∷◌, ◌++◌, length, slice_index, bit_and, Vec, All, Contains, refl, sym, ◌∙◌, ap, subst, arith}
use Rattle.std.specs.Global.{Global}
use Rattle.std.specs.Int.{bit_at}
use Rattle.std.specs.List.{list_all}
use Rattle.std.proofs.lemmas.Bool.{cases_lt}
use Rattle.std.proofs.lemmas.List.{get_or-map, length-map, length-append, get_or_append_left, get_or_push}
use Rattle.type_hierarchy.specs.Bits.{has_bit, IsRow}
use Rattle.type_hierarchy.specs.Table.{TypeTable, set_of, has_member, intersection, IsIntersection}
use Rattle.type_hierarchy.specs.Laws.{IsRising, IsHierarchy}
use Rattle.type_hierarchy.specs.Inner.Tables.{row_items, sets_of}
use Rattle.type_hierarchy.proofs.BitLemmas.{and_bit, none_in_empty}
use Rattle.type_hierarchy.proofs.RowLemmas.{push_all}
use Rattle.type_hierarchy.proofs.SetLemmas.{differ, bool_cases, same_bools, eq_true, eq_of, and_left, and_right, and_both, member_bits, member_intersection, rising_filter, rising_intersection, rising_same}
use Rattle.type_hierarchy.proofs.TypeLemmas.{set_row}
use Rattle.type_hierarchy.proofs.FamilyLemmas.{member_common, common_down}
use Rattle.glb_completion.specs.Inner.Growing.{set_at, IsGrowing, StartsWith, IsMet}
use Rattle.glb_completion.specs.Inner.Crossings.{IsUnder, HasCrossings}
use Rattle.glb_completion.specs.Inner.Kinds.{HasShared, IsOver, IsCovered, HasPlaces, key_of, IsRowOf, IsKnown, AreKinds, Looks, was_seen, is_first, isnt_noted}
use Rattle.glb_completion.proofs.GrowingLemmas.{row_kept, met_on, row_old, row_new, size_pushed, split}
use Rattle.glb_completion.proofs.CrossingLemmas.{under_all, and_rest}

-- where a type is neither in the set nor known to be above all of it, the way up from a member in common leads to a shared one in common
module _ (h : TypeTable) (laws : IsHierarchy h) (keys above : List (Vec ℕ Global)) (at t : ℕ) (shared : List ℕ) (g : IsGrowing h keys above) (in_at : at < length keys) (in_t : t < h.written)
    (has : HasShared h (row_items keys at) shared) (outside : has_bit (row_items keys at) t ≡ false) (open_ : has_bit (row_items above at) t ≡ false) where
  i : IsIntersection h (set_at h keys at)
  i = g.intersections at in_at

  in_all : (x : ℕ) → x < h.written → has_bit (row_items keys at) x ≡ list_all (λ u. has_member (set_of h u) x) i.types
  in_all x l = sym (member_bits h.written (row_items keys at) x l) ∙ ap (λ s. has_member s x) (sym (set_row h.written keys at in_at)) ∙ ap (λ s. has_member s x) i.is_common ∙ member_common h i.types x l

  in_set : (x : ℕ) → x < h.written → has_member (set_at h keys at) x ≡ has_bit (row_items keys at) x
  in_set x l = ap (λ s. has_member s x) (set_row h.written keys at in_at) ∙ member_bits h.written (row_items keys at) x l

  -- where the set is a type's, what is above it is known
  own_at : (x p : ℕ) → x < h.written → IsUnder h x p → has_bit (row_items keys at) x ≡ true → has_bit (row_items keys at) p ≡ false → has_member (set_of h t) x ≡ true → ⊥
  own_at x p x_in u a b m = differ _ (subst (λ k. has_bit (row_items above k) t ≡ true) (sym same) (g.up x x_in t in_t ∙ m)) open_
    where
      p_in : p < h.written
      p_in = omega (arith, u.earlier, x_in)

      rising : IsRising h.written (set_at h keys at)
      rising = subst (IsRising h.written) (sym i.is_common) (rising_filter (λ y. list_all (λ s. has_member (set_of h s) y) i.types) h.written)

      sub : (y : ℕ) → has_member (set_of h x) y ≡ true → has_member (set_at h keys at) y ≡ true
      sub y n = subst (λ s. has_member s y ≡ true) (sym i.is_common)
          (common_down h laws.order i.types x y (λ k d l. let r = i.in_range k d l in omega (arith, r, laws.order.written_first)) x_in (subst (λ s. has_member s x ≡ true) i.is_common (in_set x x_in ∙ a)) n)

      is : set_at h keys at ≡ set_of h x
      is = rising_same h.written _ _ rising (laws.order.rising x (omega (arith, x_in, laws.order.written_first)))
          (λ y l. same_bools _ _ (λ n. under_all h x p u i.types i.in_range (sym (in_all x x_in) ∙ a) (sym (in_all p p_in) ∙ b) y (sym (in_all y l) ∙ sym (in_set y l) ∙ n)) (sub y))

      x_key : x < length keys
      x_key = omega (arith, x_in, g.enough)

      size : length (sets_of h.written keys) ≡ length keys
      size = length-map keys (λ r. _)

      same : at ≡ x
      same = go (cases_lt at x) (cases_lt x at)
        where
          go : (at < x) ⊎ (x ≤ at) → (x < at) ⊎ (at ≤ x) → at ≡ x
          go (inl l) _ = absurd (g.distinct at x l (omega (arith, x_key, size)) (is ∙ sym (g.written x x_in)))
          go (inr l) (inl k) = absurd (g.distinct x at k (omega (arith, in_at, size)) (g.written x x_in ∙ sym is))
          go (inr l) (inr k) = omega arith

  climb : (fuel x : ℕ) → x < fuel → x < h.written → has_bit (row_items keys at) x ≡ true → has_member (set_of h t) x ≡ true → IsOver h shared t x
  climb zero x l x_in a m = absurd (omega arith)
  climb (suc fuel) x l x_in a m = go (bool_cases (has_bit shared x)) (λ p k p_in b n. climb fuel p k p_in b n)
    where
      up : (p : ℕ) → IsUnder h x p → ((t == x) ≡ true) ⊎ ((t == x) ≡ false) → (has_bit (row_items keys at) p ≡ true) ⊎ (has_bit (row_items keys at) p ≡ false) →
          ((q : ℕ) → q < fuel → q < h.written → has_bit (row_items keys at) q ≡ true → has_member (set_of h t) q ≡ true → IsOver h shared t q) → IsOver h shared t x
      up p u (inl e) _ ih = absurd (differ _ (subst (λ z. has_bit (row_items keys at) z ≡ true) (sym (eq_of t x e)) a) outside)
      up p u (inr e) (inl b) ih =
          let p_in : p < h.written = omega (arith, x_in, u.earlier) in
          let o = ih p (omega (arith, l, u.earlier)) p_in b (u.only t in_t (λ same. differ _ (ap (λ z. z == x) same ∙ eq_true x) e) m) in
          record { member = o.member; within = o.within; is_shared = o.is_shared; in_type = o.in_type; over = laws.order.down p o.member x p_in (omega (arith, o.within, laws.order.written_first)) o.over u.over }
      up p u (inr e) (inr b) ih = absurd (own_at x p x_in u a b m)

      go : (has_bit shared x ≡ true) ⊎ (has_bit shared x ≡ false) →
          ((q : ℕ) → q < fuel → q < h.written → has_bit (row_items keys at) q ≡ true → has_member (set_of h t) q ≡ true → IsOver h shared t q) → IsOver h shared t x
      go (inl c) ih = record { member = x; within = x_in; is_shared = c; in_type = m; over = laws.order.own x x_in }
      go (inr c) ih = let u = has x x_in a c in up u.0 u.1 (bool_cases (t == x)) (bool_cases (has_bit (row_items keys at) u.0)) ih

  pub covered : IsCovered h (row_items keys at) shared t
  covered y l a m = climb (y + 1) y (omega arith) l a m

-- rows with the same key have the same shared members
pub same_shared : (shared places row other : List ℕ) → HasPlaces shared places → key_of shared row places ≡ key_of shared other places → (x : ℕ) → has_bit shared x ≡ true → has_bit row x ≡ has_bit other x
same_shared shared places row other p e x s =
    let i = p.each x s in
    let words : bit_and (slice_index shared (x / 64)) (slice_index row (x / 64)) ≡ bit_and (slice_index shared (x / 64)) (slice_index other (x / 64)) =
    ap (λ k. bit_and (slice_index shared k) (slice_index row k)) (sym i.2)
    ∙ sym (get_or-map (λ k. bit_and (slice_index shared k) (slice_index row k)) places i.0 0 0 i.1)
    ∙ ap (λ l. slice_index l i.0) e
    ∙ get_or-map (λ k. bit_and (slice_index shared k) (slice_index other k)) places i.0 0 0 i.1
    ∙ ap (λ k. bit_and (slice_index shared k) (slice_index other k)) i.2 in
    let at : 64 * (x / 64) + x % 64 ≡ x = omega arith in
    subst (λ y. has_bit row y ≡ has_bit other y) at
    (drop_true (has_bit shared (64 * (x / 64) + x % 64)) _ _ (ap (has_bit shared) at ∙ s)
    (sym (and_bit shared row (x / 64) (x % 64) (omega arith)) ∙ ap (λ w. bit_at w (x % 64) == 1) words ∙ and_bit shared other (x / 64) (x % 64) (omega arith)))
  where
    drop_true : (a b c : Bool) → a ≡ true → (a && b) ≡ (a && c) → b ≡ c
    drop_true true b c t f = f
    drop_true false b c t f = absurd (differ false t refl)

-- two types with the same shared members
pub alike_met : (h : TypeTable) (laws : IsHierarchy h) (keys : List (Vec ℕ Global)) (at t u : ℕ) (shared : List ℕ) → at < length keys → t < h.written → u < h.written →
    IsCovered h (row_items keys at) shared t → IsCovered h (row_items keys at) shared u → ((x : ℕ) → x < h.written → has_bit shared x ≡ true → has_member (set_of h t) x ≡ has_member (set_of h u) x) →
    IsMet h keys at u → IsMet h keys at t
alike_met h laws keys at t u shared in_at in_t in_u ct cu same met = subst (λ s. s ≢ [] → Contains (sets_of h.written keys) s) (sym is) met
  where
    rising : IsRising h.written (set_at h keys at)
    rising = subst (IsRising h.written) (sym (set_row h.written keys at in_at)) (rising_filter (λ y. has_bit (row_items keys at) y) h.written)

    in_set : (y : ℕ) → y < h.written → has_member (set_at h keys at) y ≡ has_bit (row_items keys at) y
    in_set y l = ap (λ s. has_member s y) (set_row h.written keys at in_at) ∙ member_bits h.written (row_items keys at) y l

    one_way : (a b : ℕ) → b < h.written → IsCovered h (row_items keys at) shared a → ((x : ℕ) → x < h.written → has_bit shared x ≡ true → has_member (set_of h a) x ≡ has_member (set_of h b) x) → (y : ℕ) → y < h.written →
        (has_member (set_of h a) y && has_member (set_at h keys at) y) ≡ true → (has_member (set_of h b) y && has_member (set_at h keys at) y) ≡ true
    one_way a b in_b ca eq y l e =
        let in_s = and_right (has_member (set_of h a) y) _ e in
        let o = ca y l (sym (in_set y l) ∙ in_s) (and_left (has_member (set_of h a) y) _ e) in
        and_both (has_member (set_of h b) y) _ (laws.order.down o.member b y o.within (omega (arith, in_b, laws.order.written_first)) (sym (eq o.member o.within o.is_shared) ∙ o.in_type) o.over) in_s

    is : intersection (set_at h keys at) (set_of h t) ≡ intersection (set_at h keys at) (set_of h u)
    is = rising_same h.written _ _ (rising_intersection h.written _ _ rising) (rising_intersection h.written _ _ rising)
        (λ y l. member_intersection (set_at h keys at) (set_of h t) y
        ∙ same_bools _ _ (one_way t u in_u ct same y l) (one_way u t in_t cu (λ x k s. sym (same x k s)) y l)
        ∙ sym (member_intersection (set_at h keys at) (set_of h u) y))

-- a type of a kind that is known
pub kind_met : (h : TypeTable) (laws : IsHierarchy h) (keys seen : List (Vec ℕ Global)) (at t k : ℕ) (shared places row : List ℕ) → AreKinds h keys at shared places seen → at < length keys → t < h.written →
    IsRowOf h t row → IsCovered h (row_items keys at) shared t → k < length seen → row_items seen k ≡ key_of shared row places → IsMet h keys at t
kind_met h laws keys seen at t k shared places row a in_at in_t members c l e =
    let n = a.known k l in
    alike_met h laws keys at t n.type_is shared in_at in_t n.within c n.covered
    (λ x x_in s. sym (members x x_in) ∙ same_shared shared places row n.row a.places_are (sym e ∙ n.key_is) x s ∙ n.members x x_in) n.met

-- the kinds while the list grows
pub kinds_on : (h : TypeTable) (new old : List (Vec ℕ Global)) (at : ℕ) (shared places : List ℕ) (seen : List (Vec ℕ Global)) → StartsWith new old → at < length old → AreKinds h old at shared places seen → AreKinds h new at shared places seen
kinds_on h new old at shared places seen s in_at a =
    let same = sym (row_kept new old at s in_at) in
    record {
      row = a.row;
      has = subst (λ q. HasShared h q shared) same a.has;
      places_are = a.places_are;
      known = λ k l.
          let n = a.known k l in
          record {
            type_is = n.type_is;
            within = n.within;
            row = n.row;
            members = n.members;
            key_is = n.key_is;
            covered = subst (λ q. IsCovered h q shared n.type_is) same n.covered;
            met = met_on h new old at n.type_is s in_at n.met;
          };
    }

-- one kind more
pub kinds_more : (h : TypeTable) (keys : List (Vec ℕ Global)) (at : ℕ) (shared places : List ℕ) (seen seen' : List (Vec ℕ Global)) (v : Vec ℕ Global) → AreKinds h keys at shared places seen → seen' ≡ seen ++ v ∷ [] →
    IsKnown h keys at shared places v.items → AreKinds h keys at shared places seen'
kinds_more h keys at shared places seen seen' v a is n = record {
  row = a.row;
  has = a.has;
  places_are = a.places_are;
  known = λ k l. go k (split k (length seen) (omega (arith, l, size_pushed seen seen' v is)));
}
  where
    go : (k : ℕ) → (k < length seen) ⊎ (length seen ≡ k) → IsKnown h keys at shared places (row_items seen' k)
    go k (inl l) = subst (IsKnown h keys at shared places) (sym (ap (λ q. row_items q k) is ∙ row_old seen v k l)) (a.known k l)
    go k (inr l) = subst (IsKnown h keys at shared places) (sym (ap (λ q. row_items q k) is ∙ row_new seen v k l)) n

-- a type is met, and its kind noted
pub kind_noted : (h : TypeTable) (keys keys' : List (Vec ℕ Global)) (at t : ℕ) (shared places row : List ℕ) (seen seen' : List (Vec ℕ Global)) (is_new : Bool) → AreKinds h keys at shared places seen → StartsWith keys' keys → at < length keys → t < h.written →
    IsRowOf h t row → IsCovered h (row_items keys at) shared t → IsMet h keys' at t → Looks seen seen' (key_of shared row places) is_new → AreKinds h keys' at shared places seen'
kind_noted h keys keys' at t shared places row seen seen' is_new a s in_at in_t members c m (was_seen k l e is _) = subst (AreKinds h keys' at shared places) (sym is) (kinds_on h keys' keys at shared places seen s in_at a)
kind_noted h keys keys' at t shared places row seen seen' is_new a s in_at in_t members c m (is_first v e is _) = kinds_more h keys' at shared places seen seen' v (kinds_on h keys' keys at shared places seen s in_at a) is
    (record {
      type_is = t;
      within = in_t;
      row = row;
      members = members;
      key_is = e;
      covered = subst (λ q. IsCovered h q shared t) (sym (row_kept keys' keys at s in_at)) c;
      met = m;
    })
kind_noted h keys keys' at t shared places row seen seen' is_new a s in_at in_t members c m (isnt_noted is _) = subst (AreKinds h keys' at shared places) (sym is) (kinds_on h keys' keys at shared places seen s in_at a)

-- the kind of a type isn't new
pub seen_met : (h : TypeTable) (laws : IsHierarchy h) (keys seen seen' : List (Vec ℕ Global)) (at t : ℕ) (shared places row : List ℕ) (is_new : Bool) → AreKinds h keys at shared places seen → at < length keys → t < h.written →
    IsRowOf h t row → IsCovered h (row_items keys at) shared t → Looks seen seen' (key_of shared row places) is_new → is_new ≡ false → IsMet h keys at t
seen_met h laws keys seen seen' at t shared places row is_new a in_at in_t members c (was_seen k l e is _) no_ = kind_met h laws keys seen at t k shared places row a in_at in_t members c l e
seen_met h laws keys seen seen' at t shared places row is_new a in_at in_t members c (is_first v e is t_) no_ = absurd (differ is_new t_ no_)
seen_met h laws keys seen seen' at t shared places row is_new a in_at in_t members c (isnt_noted is t_) no_ = absurd (differ is_new t_ no_)

-- a type that is neither in the set nor known to be above all of it
pub open_covered : (h : TypeTable) (laws : IsHierarchy h) (keys above : List (Vec ℕ Global)) (at t : ℕ) (shared : List ℕ) (p : Bool) → IsGrowing h keys above → at < length keys → t < h.written → HasShared h (row_items keys at) shared →
    p ≡ (not (has_bit (row_items keys at) t) && not (has_bit (row_items above at) t)) → p ≡ true → IsCovered h (row_items keys at) shared t
open_covered h laws keys above at t shared p g in_at in_t has is t_ =
    covered h laws keys above at t shared g in_at in_t has (lacks _ (and_left (not (has_bit (row_items keys at) t)) _ (sym is ∙ t_))) (lacks _ (and_right (not (has_bit (row_items keys at) t)) _ (sym is ∙ t_)))
  where
    lacks : (b : Bool) → not b ≡ true → b ≡ false
    lacks true e = absurd (differ false e refl)
    lacks false e = refl

-- no kind yet
pub kinds_start : (h : TypeTable) (keys : List (Vec ℕ Global)) (at : ℕ) (cross shared own places : List ℕ) (seen : List (Vec ℕ Global)) → IsRow h.written shared → HasCrossings h cross →
    ((x : ℕ) → has_bit shared x ≡ (has_bit (row_items keys at) x && has_bit cross x)) → own ≡ shared → HasPlaces shared places → seen ≡ [] → AreKinds h keys at own places seen
kinds_start h keys at cross shared own places seen r crossed shares is p none = record {
  row = subst (IsRow h.written) (sym is) r;
  has = λ x l a e. crossed x l (and_rest (has_bit (row_items keys at) x) _ a (sym (ap (λ q. has_bit q x) is ∙ shares x) ∙ e));
  places_are = subst (λ q. HasPlaces q places) (sym is) p;
  known = λ k l. absurd (omega (arith, l, ap length none));
}

-- the places of the words up to one more
pub record HasPlacesTo (row places : List ℕ) (i : ℕ) : Type 0 where
  pub within : All (λ p. p < length row) places
  pub each : (x : ℕ) → x / 64 < i → has_bit row x ≡ true → (k : ℕ) × (k < length places) × (slice_index places k ≡ x / 64)

pub places_more : (row places new : List ℕ) (i : ℕ) → i < length row → HasPlacesTo row places i → new ≡ places ++ i ∷ [] → HasPlacesTo row new (i + 1)
places_more row places new i l p is = record {
  within = push_all (λ q. q < length row) places new i p.within l is;
  each = λ x k s. go x s (split (x / 64) i k);
}
  where
    size : length new ≡ length places + 1
    size = ap length is ∙ length-append places (i ∷ [])

    go : (x : ℕ) → has_bit row x ≡ true → (x / 64 < i) ⊎ (i ≡ x / 64) → (k : ℕ) × (k < length new) × (slice_index new k ≡ x / 64)
    go x s (inl k) = let e = p.each x k s in (e.0, omega (arith, e.1, size), ap (λ q. slice_index q e.0) is ∙ get_or_append_left places (i ∷ []) 0 e.0 e.1 ∙ e.2)
    go x s (inr k) = (length places, omega (arith, size), ap (λ q. slice_index q (length places)) is ∙ get_or_push places i 0 (length places) refl ∙ k)

pub places_same : (row places : List ℕ) (i : ℕ) → slice_index row i ≡ 0 → HasPlacesTo row places i → HasPlacesTo row places (i + 1)
places_same row places i zero_ p = record {
  within = p.within;
  each = λ x k s. go x s (split (x / 64) i k);
}
  where
    go : (x : ℕ) → has_bit row x ≡ true → (x / 64 < i) ⊎ (i ≡ x / 64) → (k : ℕ) × (k < length places) × (slice_index places k ≡ x / 64)
    go x s (inl k) = p.each x k s
    go x s (inr k) = absurd (differ _ s (none_in_empty row i x zero_ k))
