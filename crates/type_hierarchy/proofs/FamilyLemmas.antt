-- Completed types from the family of nonempty intersections.
use Rattle.std.proofs.Common.{ℕ, ◌≡◌, ◌≤◌, ◌<◌, ◌+◌, ◌-◌, ◌^◌, ◌==◌, ◌&&◌, ◌⊎◌, inl, inr, Bool, true, false, List, [], ◌∷◌, ◌++◌, length, map, take, slice_index_or, Vec, String, All, refl, sym, ◌∙◌, ap, subst, arith}
use Rattle.std.specs.Global.{Global}
use Rattle.std.specs.List.{list_all, list_any, range_with_len}
use Rattle.std.specs.Str.{bytes_eq}
use Rattle.std.specs.String.{string_bytes}
use Rattle.std.proofs.lemmas.Bool.{cases_lt}
use Rattle.std.proofs.lemmas.List.{length-map, length-append, get_or_append_left, get_or-append_right, get_or_default, get_or_at, get_or-map, get_or-append-add, map-append, append_assoc, take_more}
use Rattle.std.proofs.lemmas.List.FromFn.{length-map-range_with_len, map-range_with_len_more}
use Rattle.std.proofs.lemmas.Slice.Eq.{bytes_eq-Decides}
use Rattle.type_hierarchy.specs.Bits.{has_bit, bits_below, IsRow}
use Rattle.type_hierarchy.specs.Decls.{Name, texts}
use Rattle.type_hierarchy.specs.Inner.Reach.{lists}
use Rattle.type_hierarchy.specs.Table.{TypeTable, set_of, has_member, intersection, common, IsIntersection, IsDistinct, IsFamily, glb_name, table_of}
use Rattle.type_hierarchy.specs.Named.{ArePlaces}
use Rattle.type_hierarchy.specs.Inner.Marks.{AreMarks}
use Rattle.type_hierarchy.specs.Inner.Columns.{AreColumns}
use Rattle.type_hierarchy.specs.Laws.{IsOrder, IsClosed, IsRising, IsHierarchy}
use Rattle.type_hierarchy.specs.Inner.Tables.{types_table, sets_of, IsTypesInside}
use Rattle.type_hierarchy.proofs.TypeLemmas.{set_row}
use Rattle.type_hierarchy.proofs.ListLemmas.{any_at, any_index}
use Rattle.type_hierarchy.proofs.SetLemmas.{bool_cases, eq_true, member_filter, member_range, filter_same, filter_twice, rising_filter, rising_below, and_both, and_left, and_right, or_cases, or_left, or_right, eq_of}

-- members of common sets
all_at : (p : ℕ → Bool) (ts : List ℕ) → list_all p ts ≡ true → (t : ℕ) → has_member ts t ≡ true → p t ≡ true
all_at p [] e t m = cc
all_at p (u ∷ ts) e t m = go (or_cases (u == t) _ m) (λ k. all_at p ts (and_right (p u) _ e) t k)
  where
    go : ((u == t) ≡ true) ⊎ (has_member ts t ≡ true) → (has_member ts t ≡ true → p t ≡ true) → p t ≡ true
    go (inl k) ih = subst (λ x. p x ≡ true) (eq_of u t k) (and_left (p u) _ e)
    go (inr k) ih = ih k

all_of : (p q : ℕ → Bool) (ts : List ℕ) → ((t : ℕ) → has_member ts t ≡ true → p t ≡ true → q t ≡ true) → list_all p ts ≡ true → list_all q ts ≡ true
all_of p q [] h e = refl
all_of p q (u ∷ ts) h e = and_both (q u) _ (h u (or_left (u == u) _ (eq_true u)) (and_left (p u) _ e)) (all_of p q ts (λ t m k. h t (or_right (u == t) _ m) k) (and_right (p u) _ e))

pub member_common : (h : TypeTable) (ts : List ℕ) (x : ℕ) → x < h.written → has_member (common h ts) x ≡ list_all (λ t. has_member (set_of h t) x) ts
member_common h ts x l = member_filter (λ y. list_all (λ t. has_member (set_of h t) y) ts) (range_with_len 0 h.written) x
    ∙ ap (λ b. list_all (λ t. has_member (set_of h t) x) ts && b) (member_range 0 h.written x (omega arith) (omega arith)) ∙ and_true (list_all (λ t. has_member (set_of h t) x) ts)
  where
    and_true : (b : Bool) → (b && true) ≡ b
    and_true true = refl
    and_true false = refl

list_all-append : (p : ℕ → Bool) (xs ys : List ℕ) → list_all p (xs ++ ys) ≡ (list_all p xs && list_all p ys)
list_all-append p [] ys = refl
list_all-append p (x ∷ xs) ys = ap (λ b. p x && b) (list_all-append p xs ys) ∙ assoc (p x)
  where
    assoc : (b : Bool) → (b && (list_all p xs && list_all p ys)) ≡ ((b && list_all p xs) && list_all p ys)
    assoc true = refl
    assoc false = refl

-- the intersection of two common sets is the common set of both lists
pub common-append : (h : TypeTable) (ts us : List ℕ) → intersection (common h ts) (common h us) ≡ common h (us ++ ts)
common-append h ts us =
    filter_twice (has_member (common h us)) (λ x. list_all (λ t. has_member (set_of h t) x) ts) (range_with_len 0 h.written)
    ∙ filter_same (λ x. has_member (common h us) x && list_all (λ t. has_member (set_of h t) x) ts) (λ x. list_all (λ t. has_member (set_of h t) x) (us ++ ts)) 0 h.written
    (λ x low high. ap (λ b. b && list_all (λ t. has_member (set_of h t) x) ts) (member_common h us x (omega arith)) ∙ sym (list_all-append (λ t. has_member (set_of h t) x) us ts))

pub common_down : (h : TypeTable) (o : IsOrder h) (ts : List ℕ) (a x : ℕ) → All (λ t. t < length h.sets) ts → a < h.written → has_member (common h ts) a ≡ true → has_member (set_of h a) x ≡ true →
    has_member (common h ts) x ≡ true
common_down h o ts a x ts_in a_in m k =
    let x_in = rising_below h.written _ x (o.rising a (omega (arith, a_in, o.written_first))) k in
    member_common h ts x x_in ∙ all_of (λ t. has_member (set_of h t) a) (λ t. has_member (set_of h t) x) ts (λ t in_ts e. o.down a t x a_in (in_range t in_ts) e k) (sym (member_common h ts a a_in) ∙ m)
  where
    in_range : (t : ℕ) → has_member ts t ≡ true → t < length h.sets
    in_range t e =
        let i = any_index (λ y. y == t) 0 ts e in
        subst (λ y. y < length h.sets) (eq_of _ t i.2) (ts_in i.0 0 i.1)

-- the sets of a completed hierarchy
module _ (h : TypeTable) (laws : IsHierarchy h) (added : List (List ℕ)) (strings : List Name) (family : IsFamily h (h.sets ++ added)) where
  old_set : (a : ℕ) → a < length h.sets → slice_index_or (h.sets ++ added) a [] ≡ set_of h a
  old_set a l = get_or_append_left h.sets added [] a l

  of_family : (a : ℕ) → a < length (h.sets ++ added) → IsIntersection h (slice_index_or (h.sets ++ added) a [])
  of_family a l = family.intersections a [] l

  in_sets : (ts : List ℕ) → All (λ t. t < h.written) ts → All (λ t. t < length h.sets) ts
  in_sets ts l k d m = let b = l k d m in omega (arith, b, laws.order.written_first)

  pub completed_order : IsOrder (table_of h added strings)
  completed_order = record {
    at_least_top = laws.order.at_least_top;
    written_first = omega (arith, laws.order.written_first, length-append h.sets added);
    named = omega (arith, laws.order.named, length-append h.sets added, length-append (h.names ++ map glb_name (range_with_len 1 (length added))) strings, length-append h.names (map glb_name (range_with_len 1 (length added))), length-map-range_with_len glb_name 1 (length added));
    string_in = laws.order.string_in;
    rising = λ a l. subst (IsRising h.written) (sym (of_family a l).is_common) (rising_filter (λ x. list_all (λ t. has_member (set_of h t) x) (of_family a l).types) h.written);
    nonempty = λ a l. (of_family a l).nonempty;
    distinct = family.once;
    own = λ a l. ap (λ s. has_member s a) (old_set a (omega (arith, l, laws.order.written_first))) ∙ laws.order.own a l;
    down = λ a b x l m e f. down a b x l m e f;
    top_has_all = λ x l. ap (λ s. has_member s x) (old_set 0 (omega (arith, laws.order.at_least_top, laws.order.written_first))) ∙ laws.order.top_has_all x l;
  }
    where
      down : (a b x : ℕ) → a < h.written → b < length (h.sets ++ added) → has_member (slice_index_or (h.sets ++ added) b []) a ≡ true →
          has_member (slice_index_or (h.sets ++ added) a []) x ≡ true → has_member (slice_index_or (h.sets ++ added) b []) x ≡ true
      down a b x l m e f =
          let i = of_family b m in
          subst (λ s. has_member s x ≡ true) (sym i.is_common)
          (common_down h laws.order i.types a x (in_sets i.types i.in_range) l (subst (λ s. has_member s a ≡ true) i.is_common e)
          (sym (ap (λ s. has_member s x) (old_set a (omega (arith, l, laws.order.written_first)))) ∙ f))

  pub completed_closed : IsClosed (table_of h added strings)
  completed_closed a b l m ne =
      let i = of_family a l in
      let j = of_family b m in
      let is : intersection (slice_index_or (h.sets ++ added) a []) (slice_index_or (h.sets ++ added) b []) ≡ common h (j.types ++ i.types) =
      ap (λ s. intersection s (slice_index_or (h.sets ++ added) b [])) i.is_common ∙ ap (intersection (common h i.types)) j.is_common ∙ common-append h i.types j.types in
      let found = family.whole _ (record {
        types = j.types ++ i.types;
        one = omega (arith, i.one, length-append j.types i.types);
        in_range = λ k d n. both k d 0 j.types i.types n j.in_range i.in_range (cases_lt k (length j.types));
        is_common = is;
        nonempty = ne;
      }) in
      (found.0, found.1, get_or_default (h.sets ++ added) found.0 [] _ found.1 ∙ found.2)
    where
      both : (k d : ℕ) → (n : ℕ) → (xs ys : List ℕ) → k < length (xs ++ ys) → All (λ t. t < h.written) xs → All (λ t. t < h.written) ys → (k < length xs) ⊎ (length xs ≤ k) → slice_index_or (xs ++ ys) k d < h.written
      both k d n xs ys l p q (inl c) = subst (λ t. t < h.written) (sym (get_or_append_left xs ys d k c)) (p k d c)
      both k d n xs ys l p q (inr c) = subst (λ t. t < h.written) (sym (get_or-append_right xs ys (length xs) k d refl c)) (q (k - length xs) d (omega (arith, l, c, length-append xs ys)))

pub table_is : (names : List (String Global)) (keys : List (Vec ℕ Global)) (w s : ℕ) (h : TypeTable) (added : List (List ℕ)) (strings : List Name) →
    texts names ≡ h.names ++ map glb_name (range_with_len 1 (length added)) ++ strings → sets_of w keys ≡ h.sets ++ added → w ≡ h.written → s ≡ h.string_type →
    types_table names keys w s ≡ table_of h added strings
table_is names keys w s h added strings a b c d =
    ap (λ (x : List Name). let t : TypeTable = record { names = x; sets = sets_of w keys; written = w; string_type = s } in t) a
    ∙ ap (λ (x : List (List ℕ)). let t : TypeTable = record { names = h.names ++ map glb_name (range_with_len 1 (length added)) ++ strings; sets = x; written = w; string_type = s } in t) b
    ∙ ap (λ (x : ℕ). let t : TypeTable = record { names = h.names ++ map glb_name (range_with_len 1 (length added)) ++ strings; sets = h.sets ++ added; written = x; string_type = s } in t) c
    ∙ ap (λ (x : ℕ). let t : TypeTable = record { names = h.names ++ map glb_name (range_with_len 1 (length added)) ++ strings; sets = h.sets ++ added; written = h.written; string_type = x } in t) d

pub types_inside : (names : List (String Global)) (keys : List (Vec ℕ Global)) (w s : ℕ) (h : TypeTable) (added : List (List ℕ)) (strings : List Name) (places : List (String Global × ℕ)) (marks : List ℕ) (columns : List (Vec ℕ Global)) →
    IsHierarchy h → IsFamily h (h.sets ++ added) → h.written + length added + length strings < 2 ^ 32 → All (λ row. IsRow w row.items) keys →
    texts names ≡ h.names ++ map glb_name (range_with_len 1 (length added)) ++ strings → sets_of w keys ≡ h.sets ++ added → w ≡ h.written → s ≡ h.string_type →
    ArePlaces places (take (length keys) (texts names)) → AreMarks keys marks → AreColumns w keys columns → IsTypesInside names keys w s places marks columns
types_inside names keys w s h added strings places marks columns laws family few rows a b c d p m q = record {
  places_are = p;
  marks_are = m;
  columns_are = q;
  rows_are = rows;
  few = omega (arith, c, laws.few);
  numbered = omega (
    arith,
    ap length a,
    length-map names string_bytes,
    few,
    laws.all_written,
    laws.all_named,
    length-append (h.names ++ map glb_name (range_with_len 1 (length added))) strings,
    length-append h.names (map glb_name (range_with_len 1 (length added))),
    length-map-range_with_len glb_name 1 (length added),
  );
  order = subst IsOrder (sym is) (completed_order h laws added strings family);
  closed = subst IsClosed (sym is) (completed_closed h laws added strings family);
}
  where
    is : types_table names keys w s ≡ table_of h added strings
    is = table_is names keys w s h added strings a b c d

-- each type that isn't a string has a name
pub names_enough : (names : List (String Global)) (keys : List (Vec ℕ Global)) (w : ℕ) (h : TypeTable) (added : List (List ℕ)) (strings : List Name) → IsHierarchy h →
    texts names ≡ h.names ++ map glb_name (range_with_len 1 (length added)) ++ strings → sets_of w keys ≡ h.sets ++ added →
    (length keys ≤ length names) × (length keys ≡ h.written + length added)
names_enough names keys w h added strings laws a b = (omega (arith, named, keyed), omega (arith, keyed))
  where
    keyed : length keys ≡ h.written + length added
    keyed = omega (arith, sym (length-map keys (λ row. bits_below w row.items)), ap length b, length-append h.sets added, laws.all_written)

    named : h.written + length added ≤ length names
    named = omega (
      arith,
      ap length a,
      length-map names string_bytes,
      laws.all_written,
      laws.all_named,
      length-append (h.names ++ map glb_name (range_with_len 1 (length added))) strings,
      length-append h.names (map glb_name (range_with_len 1 (length added))),
      length-map-range_with_len glb_name 1 (length added),
    )

-- rising members
pub rising_all : (n : ℕ) (xs : List ℕ) → IsRising n xs → All (λ x. x < n) xs
rising_all n xs r k d h = rising_below n xs _ r (any_at (λ y. y == slice_index_or xs k d) xs k d h (eq_true (slice_index_or xs k d)))

pub row_members : (n : ℕ) (xs row : List ℕ) → IsRising n xs → ((x : ℕ) → has_bit row x ≡ has_member xs x) → bits_below n row ≡ xs
row_members n xs row r e = filter_same (λ x. has_bit row x) (has_member xs) 0 n (λ x low high. e x) ∙ sym r

pub sets_push : (n : ℕ) (first rows new : List (Vec ℕ Global)) (added : List (Vec ℕ Global)) (i : ℕ) (m row : Vec ℕ Global) → i < length added → m ≡ slice_index_or added i m → bits_below n row.items ≡ m.items →
    sets_of n rows ≡ sets_of n first ++ lists (take i added) → new ≡ rows ++ row ∷ [] → sets_of n new ≡ sets_of n first ++ lists (take (i + 1) added)
sets_push n first rows new added i m row h here is old grown =
    ap (sets_of n) grown ∙ map-append (λ r. bits_below n r.items) rows (row ∷ []) ∙ ap (λ l. l ++ bits_below n row.items ∷ []) old ∙ append_assoc (sets_of n first) (lists (take i added)) (bits_below n row.items ∷ [])
    ∙ ap (λ l. sets_of n first ++ l) (ap (λ x. lists (take i added) ++ x ∷ []) (is ∙ ap (λ v. v.items) here)
    ∙ sym (ap lists (take_more added i m h) ∙ map-append (λ v. v.items) (take i added) (slice_index_or added i m ∷ [])))

pub texts_push : (first : List Name) (names new strings : List (String Global)) (i : ℕ) (s t : String Global) → i < length strings → s ≡ slice_index_or strings i s → string_bytes t ≡ string_bytes s →
    texts names ≡ first ++ texts (take i strings) → new ≡ names ++ t ∷ [] → texts new ≡ first ++ texts (take (i + 1) strings)
texts_push first names new strings i s t h here is old grown =
    ap texts grown ∙ map-append string_bytes names (t ∷ []) ∙ ap (λ l. l ++ string_bytes t ∷ []) old ∙ append_assoc first (texts (take i strings)) (string_bytes t ∷ [])
    ∙ ap (λ l. first ++ l) (ap (λ x. texts (take i strings) ++ x ∷ []) (is ∙ ap string_bytes here)
    ∙ sym (ap texts (take_more strings i s h) ∙ map-append string_bytes (take i strings) (slice_index_or strings i s ∷ [])))

pub glb_push : (first : List Name) (names new : List (String Global)) (i j : ℕ) (t : String Global) → 1 + i ≡ j → string_bytes t ≡ glb_name j →
    texts names ≡ first ++ map glb_name (range_with_len 1 i) → new ≡ names ++ t ∷ [] → texts new ≡ first ++ map glb_name (range_with_len 1 (i + 1))
glb_push first names new i j t e is old grown =
    ap texts grown ∙ map-append string_bytes names (t ∷ []) ∙ ap (λ l. l ++ string_bytes t ∷ []) old ∙ append_assoc first (map glb_name (range_with_len 1 i)) (string_bytes t ∷ [])
    ∙ ap (λ l. first ++ l) (ap (λ x. map glb_name (range_with_len 1 i) ++ x ∷ []) is ∙ sym (map-range_with_len_more glb_name 1 i j e))

-- a row that isn't among those before it
pub new_row : (rows keys rest : List (Vec ℕ Global)) (row : Vec ℕ Global) → IsDistinct (lists rows) → keys ++ row ∷ rest ≡ rows → list_any (λ k. bytes_eq row.items k.items) keys ≡ false
new_row rows keys rest row distinct is = go (bool_cases (list_any (λ k. bytes_eq row.items k.items) keys))
  where
    go : (list_any (λ k. bytes_eq row.items k.items) keys ≡ true) ⊎ (list_any (λ k. bytes_eq row.items k.items) keys ≡ false) → list_any (λ k. bytes_eq row.items k.items) keys ≡ false
    go (inr e) = e
    go (inl e) =
        let i = any_index (λ k. bytes_eq row.items k.items) row keys e in
        let size : length keys < length (lists rows) = omega (arith, ap length is, length-append keys (row ∷ rest), length-map rows (λ v. v.items)) in
        let there : slice_index_or (lists rows) (length keys) [] ≡ row.items = ap (λ l. slice_index_or (lists l) (length keys) []) (sym is) ∙ at_end in
        let before : slice_index_or (lists rows) i.0 [] ≡ (slice_index_or keys i.0 row).items = ap (λ l. slice_index_or (lists l) i.0 []) (sym is)
        ∙ get_or-map (λ v. v.items) (keys ++ row ∷ rest) i.0 row [] (omega (arith, i.1, length-append keys (row ∷ rest))) ∙ ap (λ v. v.items) (get_or_append_left keys (row ∷ rest) row i.0 i.1) in
        absurd (distinct i.0 (length keys) i.1 size (before ∙ sym ((bytes_eq-Decides row.items (slice_index_or keys i.0 row).items).0 i.2) ∙ sym there))
      where
        at_end : slice_index_or (lists (keys ++ row ∷ rest)) (length keys) [] ≡ row.items
        at_end = get_or-map (λ v. v.items) (keys ++ row ∷ rest) (length keys) row [] (omega (arith, length-append keys (row ∷ rest))) ∙ ap (λ v. v.items) (get_or_at keys row rest row (length keys) refl)

-- rows of different sets differ
pub rows_distinct : (n : ℕ) (rows : List (Vec ℕ Global)) → IsDistinct (sets_of n rows) → IsDistinct (lists rows)
rows_distinct n rows d i j h k e =
    d i j h (omega (arith, k, length-map rows (λ v. v.items), length-map rows (λ row. bits_below n row.items)))
    (set_of_row i (omega (arith, h, k, length-map rows (λ v. v.items))) ∙ ap (bits_below n) e ∙ sym (set_of_row j (omega (arith, k, length-map rows (λ v. v.items)))))
  where
    set_of_row : (a : ℕ) → a < length rows → slice_index_or (sets_of n rows) a [] ≡ bits_below n (slice_index_or (lists rows) a [])
    set_of_row a l = set_row n rows a l

pub added_rising : (h : TypeTable) (added : List (Vec ℕ Global)) → IsFamily h (h.sets ++ lists added) → All (λ m. IsRising h.written m.items) added
added_rising h added family k d l =
    let in' : length h.sets + k < length (h.sets ++ lists added) = omega (arith, l, length-append h.sets (lists added), length-map added (λ v. v.items)) in
    let i = family.intersections (length h.sets + k) [] in' in
    let is : slice_index_or (h.sets ++ lists added) (length h.sets + k) [] ≡ (slice_index_or added k d).items = get_or-append-add h.sets (lists added) k [] ∙ get_or-map (λ v. v.items) added k d [] l in
    subst (IsRising h.written) (sym i.is_common ∙ is) (rising_filter (λ x. list_all (λ t. has_member (set_of h t) x) i.types) h.written)

pub sets_same : (n w : ℕ) (h : TypeTable) (rows all : List (Vec ℕ Global)) (added now : List (Vec ℕ Global)) → n ≡ w → sets_of n rows ≡ h.sets → now ≡ added →
    sets_of w all ≡ sets_of w rows ++ lists now → sets_of w all ≡ h.sets ++ lists added
sets_same n w h rows all added now e s d is = is ∙ ap (λ k. sets_of k rows ++ lists now) (sym e) ∙ ap (λ l. l ++ lists now) s ∙ ap (λ l. h.sets ++ lists l) d
