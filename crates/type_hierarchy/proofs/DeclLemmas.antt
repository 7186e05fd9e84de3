-- Declarations without a fault give a rooted order.
use Rattle.std.proofs.Common.{ℕ, zero, suc, ◌≡◌, ◌≢◌, ◌≤◌, ◌<◌, ◌+◌, ◌-◌, ◌==◌, ◌&&◌, ◌||◌, not, ◌⊎◌, inl, inr, Bool, true, false, cond, Option, List, [], ◌∷◌, ◌++◌, length, filter, map, slice_index_or, nat_lt, Vec, String, All, refl, sym, ◌∙◌, ap, subst, arith}
use Rattle.std.specs.Prelude.{position, unwrap_or, Some, None}
use Rattle.std.specs.Global.{Global}
use Rattle.std.specs.List.{list_any, position_or_len}
use Rattle.std.specs.Str.{bytes_eq}
use Rattle.std.proofs.lemmas.Bool.{cases_lt}
use Rattle.std.proofs.lemmas.List.{length-map, length-append, get_or-map, get_or_past}
use Rattle.std.proofs.lemmas.List.Folds.{list_any-append}
use Rattle.type_hierarchy.specs.Bits.{bits_below}
use Rattle.type_hierarchy.specs.Decls.{Name, Declared, declared, decls_of, bare, at_place, is_defined, unwritten, types_of, names_of, texts, parent_names, number_of, parents_of}
use Rattle.type_hierarchy.specs.Order.{Has, here, there, IsAtOrBelow, itself, above_parent, IsBelow}
use Rattle.type_hierarchy.specs.Faults.{HasNoReserved, HasNoCycle, IsCyclic, IsFirst}
use Rattle.type_hierarchy.specs.declared.decl.Decl.{Decl}
use Rattle.type_hierarchy.specs.Inner.Reach.{lists, IsFirstCycle}
use Rattle.type_hierarchy.specs.Inner.Rows.{AreRows, HoldOrder, row_at}
use Rattle.type_hierarchy.specs.Table.{has_member, IsHierarchyOf}
use Rattle.type_hierarchy.specs.Inner.Tables.{hierarchy_table, IsHierarchyInside}
use Rattle.type_hierarchy.proofs.SetLemmas.{differ, bool_cases, or_left, position_some, member_bits, eq_false}
use Rattle.std.specs.String.{string_bytes}
use Rattle.type_hierarchy.proofs.ListLemmas.{any_index, any_at}
use Rattle.type_hierarchy.proofs.NameLemmas.{bytes_eq-refl, bytes_eq-same}
use Rattle.type_hierarchy.proofs.HierarchyLemmas.{IsRooted, rooted_laws, get_or_map_twice}

pub top_undefined : (top : Name) (ds : List Declared) → HasNoReserved top ds → is_defined ds top ≡ false
top_undefined top ds none = go (bool_cases (is_defined ds top))
  where
    go : (is_defined ds top ≡ true) ⊎ (is_defined ds top ≡ false) → is_defined ds top ≡ false
    go (inr e) = e
    go (inl e) =
        let at = any_index (λ d. bytes_eq top d.name) (bare []) ds e in
        absurd (none at.0 (
          at.1,
          or_left (bytes_eq (at_place ds at.0).name top) _
              (subst (λ n. bytes_eq n top ≡ true) (bytes_eq-same top (at_place ds at.0).name at.2) (bytes_eq-refl top)),
        ))

-- all types but the top type
abbrev others : Name → Name → List Declared → List Declared
others top text ds = filter (λ d. not (is_defined ds d.name)) (bare text ∷ []) ++ ds

types_are : (top text : Name) (ds : List Declared) → is_defined ds top ≡ false → types_of top text ds ≡ bare top ∷ others top text ds
types_are top text ds none = ap (λ b. cond (not b) (bare top ∷ filter (λ d. not (is_defined ds d.name)) (bare text ∷ [])) (filter (λ d. not (is_defined ds d.name)) (bare text ∷ [])) ++ ds) none

bytes_differ : (a b : Name) → a ≢ b → bytes_eq a b ≡ false
bytes_differ a b ne = go (bool_cases (bytes_eq a b))
  where
    go : (bytes_eq a b ≡ true) ⊎ (bytes_eq a b ≡ false) → bytes_eq a b ≡ false
    go (inl e) = absurd (ne (bytes_eq-same a b e))
    go (inr e) = e

others_apart : (top text : Name) (ds : List Declared) → top ≢ text → is_defined ds top ≡ false → is_defined (others top text ds) top ≡ false
others_apart top text ds ne none =
    list_any-append (λ d. bytes_eq top d.name) (filter (λ d. not (is_defined ds d.name)) (bare text ∷ [])) ds
    ∙ ap (λ b. b || is_defined ds top) (go (is_defined ds text)) ∙ none
  where
    go : (b : Bool) → list_any (λ d. bytes_eq top d.name) (cond (not b) (bare text ∷ []) []) ≡ false
    go true = refl
    go false = ap (λ p. p || false) (bytes_differ top text ne)

abbrev place_or_zero : List Name → ℕ → ℕ
place_or_zero names k = unwrap_or (cond (nat_lt k (length names)) (Some k) None) 0

number_zero : (top : Name) (rest : List Name) → number_of (top ∷ rest) top ≡ 0
number_zero top rest = ap (place_or_zero (top ∷ rest)) (zero_place (bytes_eq top top) (bytes_eq-refl top)) ∙ either (nat_lt 0 (length (top ∷ rest)))
  where
    zero_place : (b : Bool) → b ≡ true → cond {A = ℕ} (not b) (1 + position_or_len (bytes_eq top) rest) 0 ≡ 0
    zero_place b e = rw e refl

    either : (b : Bool) → unwrap_or (cond {A = Option ℕ} b (Some 0) None) 0 ≡ 0
    either true = refl
    either false = refl

pub number_in : (names : List Name) (n : Name) → 0 < length names → number_of names n < length names
number_in names n h = go (position (bytes_eq n) names) refl
  where
    go : (o : Option ℕ) → position (bytes_eq n) names ≡ o → unwrap_or o 0 < length names
    go None e = h
    go (Some m) e = (position_some (bytes_eq n) names m [] e).0

has_map : {X : Type 0} (f : X → ℕ) (xs : List X) (y : ℕ) → Has y (map f xs) → (x : X) × (y ≡ f x)
has_map f [] y h = elim h [ ]
has_map f (x ∷ xs) _ here = (x, refl)
has_map f (x ∷ xs) y (there h) = has_map f xs y h

-- the parents of a type that isn't the top type
some_parent : (names : List Name) (top : Name) (d : Declared) → bytes_eq d.name top ≡ false → (p : ℕ) × Has p (map (number_of names) (parent_names top d))
some_parent names top d e = go d.parents refl
  where
    go : (ps : List Name) → d.parents ≡ ps → (p : ℕ) × Has p (map (number_of names) (parent_names top d))
    go [] f = (number_of names top, subst (λ l. Has (number_of names top) (map (number_of names) l)) (sym (ap (λ l. cond ((length l == 0) && not (bytes_eq d.name top)) (top ∷ []) l) f ∙ ap (λ b. cond (not b) (top ∷ []) []) e)) here)
    go (q ∷ qs) f = (number_of names q, subst (λ l. Has (number_of names q) (map (number_of names) l)) (sym (ap (λ l. cond ((length l == 0) && not (bytes_eq d.name top)) (top ∷ []) l) f ∙ ap (λ b. cond (b && not (bytes_eq d.name top)) (top ∷ []) (q ∷ qs)) (not_zero (length qs)))) here)
      where
        not_zero : (n : ℕ) → (suc n == 0) ≡ false
        not_zero n = eq_false (suc n) 0 (λ k. omega arith)

pub rooted : (top text : Name) (ds : List Declared) → top ≢ text → HasNoCycle top text ds → HasNoReserved top ds →
    IsRooted (parents_of top text ds) (length (types_of top text ds))
rooted top text ds ne no_cycle no_reserved = record {
  in_range = λ t p h. in_range t p h (cases_lt t (length (types_of top text ds)));
  no_cycle = λ t h b. cycle t h b (cases_lt t (length (unwritten top text ds)));
  parent = λ t s h. parent t s h;
}
  where
    none : is_defined ds top ≡ false
    none = top_undefined top ds no_reserved

    are : types_of top text ds ≡ bare top ∷ others top text ds
    are = types_are top text ds none

    names : List Name
    names = names_of top text ds

    names_are : names_of top text ds ≡ top ∷ map (λ d. d.name) (others top text ds)
    names_are = ap (map (λ d. d.name)) are

    named : length (names_of top text ds) ≡ length (types_of top text ds)
    named = length-map (types_of top text ds) (λ d. d.name)

    some : 0 < length (types_of top text ds)
    some = omega (arith, ap length are)

    row : (t : ℕ) → t < length (types_of top text ds) → slice_index_or (parents_of top text ds) t [] ≡ map (number_of (names_of top text ds)) (parent_names top (at_place (types_of top text ds) t))
    row t h = get_or-map (λ d. map (number_of (names_of top text ds)) (parent_names top d)) (types_of top text ds) t (bare []) [] h

    row_past : (t : ℕ) → length (types_of top text ds) ≤ t → slice_index_or (parents_of top text ds) t [] ≡ []
    row_past t h = get_or_past (parents_of top text ds) t [] (omega (arith, h, length-map (types_of top text ds) (λ d. map (number_of (names_of top text ds)) (parent_names top d))))

    in_range : (t p : ℕ) → Has p (slice_index_or (parents_of top text ds) t []) → (t < length (types_of top text ds)) ⊎ (length (types_of top text ds) ≤ t) → p < length (types_of top text ds)
    in_range t p h (inr l) = absurd (elim (subst (Has p) (row_past t l) h) [ ])
    in_range t p h (inl l) =
        let x = has_map (number_of (names_of top text ds)) _ p (subst (Has p) (row t l) h) in
        let n = number_in (names_of top text ds) x.0 (omega (arith, named, some)) in
        omega (arith, x.1, n, named)

    parent : (t : ℕ) → 0 < t → t < length (types_of top text ds) → (p : ℕ) × Has p (slice_index_or (parents_of top text ds) t [])
    parent zero s h = absurd (omega arith)
    parent (suc t) s h =
        let within : t < length (others top text ds) = omega (arith, h, ap length are) in
        let place : at_place (types_of top text ds) (suc t) ≡ at_place (others top text ds) t = ap (λ l. at_place l (suc t)) are in
        let up = some_parent (names_of top text ds) top (at_place (others top text ds) t) (bytes_differ _ top (apart t within)) in
        (up.0, subst (Has up.0) (sym (row (suc t) h ∙ ap (λ d. map (number_of (names_of top text ds)) (parent_names top d)) place)) up.1)
      where
        apart : (k : ℕ) → k < length (others top text ds) → (at_place (others top text ds) k).name ≢ top
        apart k l e = differ _ (any_at (λ d. bytes_eq top d.name) (others top text ds) k (bare []) l (subst (λ n. bytes_eq top n ≡ true) (sym e) (bytes_eq-refl top))) (others_apart top text ds ne none)

    top_row : slice_index_or (parents_of top text ds) 0 [] ≡ []
    top_row = row 0 some ∙ ap (λ l. map (number_of (names_of top text ds)) (parent_names top (at_place l 0))) are ∙ ap (λ b. map (number_of (names_of top text ds)) (cond (not b) (top ∷ []) [])) (bytes_eq-refl top)

    under_top : (u : ℕ) → 0 < u → IsAtOrBelow (parents_of top text ds) 0 u → ⊥
    under_top u s (itself _) = omega arith
    under_top u s (above_parent _ p _ h r) = elim (subst (Has p) top_row h) [ ]

    cycle : (t : ℕ) → t < length (types_of top text ds) → IsBelow (parents_of top text ds) t t → (t < length (unwritten top text ds)) ⊎ (length (unwritten top text ds) ≤ t) → ⊥
    cycle t h b (inr l) = no_cycle (t - length (unwritten top text ds)) (omega (arith, l, h, length-append (unwritten top text ds) ds), subst (λ x. IsBelow (parents_of top text ds) x x) (split l) b)
      where
        split : length (unwritten top text ds) ≤ t → t ≡ length (unwritten top text ds) + (t - length (unwritten top text ds))
        split l = omega arith
    cycle zero h b (inl l) = elim (subst (Has b.0) top_row b.1) [ ]
    cycle (suc t) h b (inl l) = second (is_defined ds text) refl
      where
        few : (b : Bool) → length (cond (not b) (bare text ∷ []) []) ≤ 1
        few true = omega arith
        few false = omega arith

        size : length (unwritten top text ds) ≡ suc (length (filter (λ d. not (is_defined ds d.name)) (bare text ∷ [])))
        size = ap (λ b. length (cond (not b) (bare top ∷ filter (λ d. not (is_defined ds d.name)) (bare text ∷ [])) (filter (λ d. not (is_defined ds d.name)) (bare text ∷ [])))) none

        t_zero : t ≡ 0
        t_zero = omega (arith, l, size, few (is_defined ds text))

        second : (w : Bool) → is_defined ds text ≡ w → ⊥
        second true e = omega (arith, l, size, ap (λ b. length (cond (not b) (bare text ∷ []) [])) e)
        second false e =
            let place : at_place (types_of top text ds) (suc t) ≡ bare text = ap (λ l. at_place l (suc t)) are ∙ ap (λ k. at_place (others top text ds) k) t_zero ∙ ap (λ b. at_place (cond (not b) (bare text ∷ []) [] ++ ds) 0) e in
            let names' : map (number_of (names_of top text ds)) (parent_names top (bare text)) ≡ 0 ∷ [] =
            ap (λ b. map (number_of (names_of top text ds)) (cond (not b) (top ∷ []) [])) (bytes_differ text top (λ k. ne (sym k)))
            ∙ ap (λ ns. number_of ns top ∷ []) names_are ∙ ap (λ k. k ∷ []) (number_zero top (map (λ d. d.name) (others top text ds))) in
            let up = subst (Has b.0) (row (suc t) h ∙ ap (λ d. map (number_of (names_of top text ds)) (parent_names top d)) place ∙ names') b.1 in
            under_top (suc t) (omega arith) (subst (λ x. IsAtOrBelow (parents_of top text ds) x (suc t)) (only b.0 up) b.2)
          where
            only : (p : ℕ) → Has p (0 ∷ []) → p ≡ 0
            only _ here = refl
            only p (there k) = elim k [ ]

filter_few : (p : Declared → Bool) (xs : List Declared) → length (filter p xs) ≤ length xs
filter_few p [] = omega arith
filter_few p (x ∷ xs) = go (p x) (filter_few p xs)
  where
    go : (b : Bool) → length (filter p xs) ≤ length xs → length (cond b (x ∷ filter p xs) (filter p xs)) ≤ suc (length xs)
    go true h = omega arith
    go false h = omega arith

-- what stands behind a hierarchy that was built
pub built_inside : (top text : Name) (ds : List Declared) (names : List (String Global)) (rows : List (Vec ℕ Global)) (s : ℕ) → top ≢ text → HasNoCycle top text ds → HasNoReserved top ds →
    texts names ≡ names_of top text ds → length rows ≡ length (parents_of top text ds) → HoldOrder (parents_of top text ds) (lists rows) → AreRows rows → length ds ≤ 16384 →
    s ≡ number_of (texts names) text → IsHierarchyInside names rows s
built_inside top text ds names rows s ne no_cycle no_reserved named size order are few s_is =
    rooted_laws names rows s (parents_of top text ds) (subst (IsRooted (parents_of top text ds)) (sym count) (rooted top text ds ne no_cycle no_reserved)) order are
    (omega (arith, names_count, count)) some (omega (arith, count, length-append (unwritten top text ds) ds, unwritten_few, few))
    (omega (arith, s_is, number_in (texts names) text (omega (arith, length-map names string_bytes, names_count, count, some)), length-map names string_bytes, names_count, count))
  where
    count : length rows ≡ length (types_of top text ds)
    count = size ∙ length-map (types_of top text ds) (λ d. map (number_of (names_of top text ds)) (parent_names top d))

    names_count : length names ≡ length (types_of top text ds)
    names_count = sym (length-map names string_bytes) ∙ ap length named ∙ length-map (types_of top text ds) (λ d. d.name)

    some : 0 < length rows
    some = omega (arith, count, ap length (types_are top text ds (top_undefined top ds no_reserved)))

    unwritten_few : length (unwritten top text ds) ≤ 2
    unwritten_few = filter_few (λ d. not (is_defined ds d.name)) (bare top ∷ bare text ∷ [])

pub built_is : (top text : Name) (ds : List Declared) (names : List (String Global)) (rows : List (Vec ℕ Global)) (s : ℕ) →
    texts names ≡ names_of top text ds → length rows ≡ length (parents_of top text ds) → HoldOrder (parents_of top text ds) (lists rows) →
    s ≡ number_of (texts names) text → IsHierarchyOf top text ds (hierarchy_table names rows s)
built_is top text ds names rows s named size order s_is = record {
  names_are = named;
  one_each = length-map rows (λ row. bits_below (length rows) row.items) ∙ count ∙ sym names_count;
  all_written = count ∙ sym names_count;
  string_is = s_is;
  sets_are = λ a b h k.
      let is = ap (λ l. has_member l a) (get_or_map_twice (length rows) rows b k) ∙ member_bits (length rows) (row_at (lists rows) b) a h in
      let told = order a b (omega (arith, h, length-map rows (λ v. v.items))) (omega (arith, k, length-map rows (λ v. v.items))) in
      (λ e. told.0 (sym is ∙ e), λ r. is ∙ told.1 r);
}
  where
    count : length rows ≡ length (types_of top text ds)
    count = size ∙ length-map (types_of top text ds) (λ d. map (number_of (names_of top text ds)) (parent_names top d))

    names_count : length (texts names) ≡ length (types_of top text ds)
    names_count = ap length named ∙ length-map (types_of top text ds) (λ d. d.name)

pub parents_in_range : (top text : Name) (ds : List Declared) (t : ℕ) (p : ℕ) → Has p (slice_index_or (parents_of top text ds) t []) → 0 < length (types_of top text ds) → p < length (types_of top text ds)
parents_in_range top text ds t p h some = go (cases_lt t (length (types_of top text ds)))
  where
    go : (t < length (types_of top text ds)) ⊎ (length (types_of top text ds) ≤ t) → p < length (types_of top text ds)
    go (inr l) = absurd (elim (subst (Has p) (get_or_past (parents_of top text ds) t [] (omega (arith, l, length-map (types_of top text ds) (λ d. map (number_of (names_of top text ds)) (parent_names top d))))) h) [ ])
    go (inl l) =
        let x = has_map (number_of (names_of top text ds)) _ p (subst (Has p) (get_or-map (λ d. map (number_of (names_of top text ds)) (parent_names top d)) (types_of top text ds) t (bare []) [] l) h) in
        let n = number_in (names_of top text ds) x.0 (omega (arith, length-map (types_of top text ds) (λ d. d.name), some)) in
        omega (arith, x.1, n, length-map (types_of top text ds) (λ d. d.name))

pub has_at : (xs : List ℕ) (i d : ℕ) → i < length xs → Has (slice_index_or xs i d) xs
has_at [] i d h = absurd (omega arith)
has_at (x ∷ xs) zero d h = here
has_at (x ∷ xs) (suc i) d h = there (has_at xs i d (omega arith))

-- the rows of parents that were made are within range
pub range_of : (top text : Name) (ds : List Declared) (ps : List (Vec ℕ Global)) → lists ps ≡ parents_of top text ds → All (λ row. All (λ x. x < length ps) row.items) ps
range_of top text ds ps e k d h i e' l =
    let size : length ps ≡ length (types_of top text ds) = sym (length-map ps (λ v. v.items)) ∙ ap length e ∙ length-map (types_of top text ds) (λ x. map (number_of (names_of top text ds)) (parent_names top x)) in
    let row : (slice_index_or ps k d).items ≡ slice_index_or (parents_of top text ds) k [] = sym (get_or-map (λ v. v.items) ps k d [] h) ∙ ap (λ m. slice_index_or m k []) e in
    let in' = parents_in_range top text ds k _ (subst (Has (slice_index_or (slice_index_or ps k d).items i e')) row (has_at _ i e' l)) (omega (arith, size, h)) in
    omega (arith, in', size)

-- the types that aren't written
pub unwritten_count : (top text : Name) (decls : List Decl) (keys : List (String Global)) (n : ℕ) → texts keys ≡ names_of top text (decls_of decls) → n ≡ length keys →
    n - length decls ≡ length (unwritten top text (decls_of decls))
unwritten_count top text decls keys n named is =
    omega (arith, is, length-map keys string_bytes, ap length named, length-map (types_of top text (decls_of decls)) (λ d. d.name), length-append (unwritten top text (decls_of decls)) (decls_of decls), length-map decls declared)

pub no_cycle_of : (top text : Name) (ds : List Declared) (ps : List (List ℕ)) (u : ℕ) (o : Option ℕ) → ps ≡ parents_of top text ds → u ≡ length (unwritten top text ds) →
    o ≡ None → IsFirstCycle ps u o → HasNoCycle top text ds
no_cycle_of top text ds ps u o is u_is none f k c = (subst (IsFirstCycle ps u) none f) (length (unwritten top text ds) + k) (omega (arith, u_is))
    (omega (arith, c.0, ap length is, length-map (types_of top text ds) (λ d. map (number_of (names_of top text ds)) (parent_names top d)), length-append (unwritten top text ds) ds))
    (subst (λ p. IsBelow p (length (unwritten top text ds) + k) (length (unwritten top text ds) + k)) (sym is) c.1)

pub first_cycle_of : (top text : Name) (ds : List Declared) (ps : List (List ℕ)) (u t : ℕ) (o : Option ℕ) → ps ≡ parents_of top text ds → u ≡ length (unwritten top text ds) →
    o ≡ Some t → IsFirstCycle ps u o → (t - u < length ds) × IsFirst (IsCyclic top text ds) (t - u)
first_cycle_of top text ds ps u t o is u_is some f = (
  within,
  (
    (within, subst (λ x. IsBelow (parents_of top text ds) x x) here (subst (λ p. IsBelow p t t) is g.2)),
    λ j h c. g.3 (length (unwritten top text ds) + j) (omega (arith, u_is)) (omega (arith, u_is, h, g.0)) (subst (λ p. IsBelow p (length (unwritten top text ds) + j) (length (unwritten top text ds) + j)) (sym is) c.1),
  ),
)
  where
    g : (u ≤ t) × (t < length ps) × IsBelow ps t t × ((v : ℕ) → u ≤ v → v < t → IsBelow ps v v → ⊥)
    g = subst (IsFirstCycle ps u) some f

    here : t ≡ length (unwritten top text ds) + (t - u)
    here = omega (arith, g.0, u_is)

    within : t - u < length ds
    within = omega (arith, g.0, g.1, u_is, ap length is, length-map (types_of top text ds) (λ d. map (number_of (names_of top text ds)) (parent_names top d)), length-append (unwritten top text ds) ds)

pub types_count : (top text : Name) (decls : List Decl) (ps : List (Vec ℕ Global)) → lists ps ≡ parents_of top text (decls_of decls) → length ps ≤ length decls + 2
types_count top text decls ps e =
    omega (
      arith,
      length-map ps (λ v. v.items),
      ap length e,
      length-map (types_of top text (decls_of decls)) (λ d. map (number_of (names_of top text (decls_of decls))) (parent_names top d)),
      length-append (unwritten top text (decls_of decls)) (decls_of decls),
      filter_few (λ d. not (is_defined (decls_of decls) d.name)) (bare top ∷ bare text ∷ []),
      length-map decls declared,
    )

pub number_near : (top text : Name) (decls : List Decl) (names : List Name) (n : Name) → names ≡ names_of top text (decls_of decls) → number_of names n ≤ length decls + 2
number_near top text decls names n e = go (cases_lt 0 (length names))
  where
    size : length names ≤ length decls + 2
    size = omega (
      arith,
      ap length e,
      length-map (types_of top text (decls_of decls)) (λ d. d.name),
      length-append (unwritten top text (decls_of decls)) (decls_of decls),
      filter_few (λ d. not (is_defined (decls_of decls) d.name)) (bare top ∷ bare text ∷ []),
      length-map decls declared,
    )

    none : (ns : List Name) → length ns ≤ 0 → number_of ns n ≡ 0
    none [] h = refl
    none (x ∷ ns) h = absurd (omega arith)

    go : (0 < length names) ⊎ (length names ≤ 0) → number_of names n ≤ length decls + 2
    go (inl h) = let m = number_in names n h in omega (arith, m, size)
    go (inr h) = omega (arith, none names h)
