-- The types of declarations without a fault, once they are completed: which are defined, and which stand below these.
use Rattle.std.proofs.Common.{ℕ, zero, suc, ◌≡◌, ◌<◌, ◌≤◌, ◌+◌, ◌-◌, ◌==◌, ◌&&◌, ◌||◌, ◌⊎◌, inl, inr, nat_lt, Bool, true, false, cond, not, List, [], ◌∷◌, ◌++◌, length, map, filter, take, get_or, Some, refl, sym, ◌∙◌, ap, subst, arith}
use Rattle.std.specs.List.{list_any, range_with_len}
use Rattle.std.specs.Option.{unwrap_or}
use Rattle.std.specs.Str.{bytes_eq}
use Rattle.std.proofs.lemmas.Bool.{cases_lt}
use Rattle.std.proofs.lemmas.List.{length-map, length-append, length-take, get_or-map, get_or-take, get_or_append_left, get_or-append-add, drop_at}
use Rattle.std.proofs.lemmas.List.FromFn.{length-map-range_with_len}
use Rattle.type_hierarchy.specs.Decls.{Declared, bare, at_place, is_defined, unwritten, types_of, names_of, parent_names, parents_of, number_of}
use Rattle.type_hierarchy.specs.Faults.{IsFaultless}
use Rattle.type_hierarchy.specs.Laws.{IsHierarchy, IsOrder, HasTypeLaws}
use Rattle.type_hierarchy.specs.Named.{type_named}
use Rattle.type_hierarchy.specs.Order.{Has as IsIn, here, there, IsAtOrBelow, itself, above_parent}
use Rattle.type_hierarchy.specs.Table.{TypeTable, IsHierarchyOf, IsFamily, completed_count, set_of, has_member, is_below, glb_name, table_of}
use Rattle.type_hierarchy.proofs.DeclLemmas.{top_undefined}
use Rattle.type_hierarchy.proofs.FamilyLemmas.{completed_order, completed_closed}
use Rattle.type_hierarchy.proofs.LawLemmas.{type_laws, below_sets, set_below, set_below_members}
use Rattle.type_hierarchy.proofs.ListLemmas.{any_at, any_index}
use Rattle.type_hierarchy.proofs.NameLemmas.{is_defined_at, unwritten_apart}
use Rattle.type_hierarchy.proofs.SetLemmas.{lt_true, lt_false, eq_true, eq_of, some_member, rising_below}
use Rattle.fs_model.specs.Claims.{Has}
use Rattle.body_facts.specs.Numbers.{strings_of}
use Rattle.constraint_expand.specs.Conditions.{IsDefined, HasLesserBelow, HasNoneAbove, AreTypesFor}
use Rattle.grammar_files.specs.Placings.{PlacedTree}
use Rattle.constraint_expand.specs.Statements.{name_of, body_of, defines_type, speaks_of_type, defines_instance}
use Rattle.grammar_files.specs.BodyStrings.{strings_of_body}
use Rattle.grammar_settings.specs.Forms.{Name}
use Rattle.grammar_types.specs.Typings.{statement_at, no_statement, name_written, type_definitions, declared_in, decls_in}
use Rattle.grammar_load.proofs.ExpandLists.{kept_at, kept_rises, place_found}
use Rattle.grammar_types.proofs.SettleLists.{bools, true_not_false, bytes_eq-refl}
use Rattle.grammar_types.proofs.Unwritten.{few_unwritten, beside_top, top_first}
use Rattle.grammar_types.proofs.SettlePlaces.{Stands, stands_at, name_at, within}

no_parents : (top text : Name) (ds : List Declared) (t : ℕ) → t < length (unwritten top text ds) → (at_place (unwritten top text ds) t).parents ≡ []
no_parents top text ds t h = go t (not (is_defined ds top)) (not (is_defined ds text)) h
  where
    go : (t : ℕ) (p q : Bool) → t < length (cond p (bare top ∷ cond q (bare text ∷ []) []) (cond q (bare text ∷ []) [])) →
        (at_place (cond p (bare top ∷ cond q (bare text ∷ []) []) (cond q (bare text ∷ []) [])) t).parents ≡ []
    go zero true q h = refl
    go (suc zero) true true h = refl
    go (suc (suc t)) true true h = absurd (omega arith)
    go (suc t) true false h = absurd (omega arith)
    go zero false true h = refl
    go (suc t) false true h = absurd (omega arith)
    go t false false h = absurd (omega arith)

top_number : (top text : Name) (ds : List Declared) → is_defined ds top ≡ false → number_of (names_of top text ds) top ≡ 0
top_number top text ds none = ap (λ us. number_of (map (λ d. d.name) (us ++ ds)) top) (top_first top text ds none) ∙ first top (map (λ d. d.name) (beside_top text ds ++ ds))
  where
    first : (n : Name) (more : List Name) → number_of (n ∷ more) n ≡ 0
    first n more = ap (λ o. unwrap_or o 0) (place_found (bytes_eq n) (n ∷ more) 0 (omega arith) (λ j k. absurd (omega (arith, k))) (bytes_eq-refl n n refl))

-- a parent of a type that is given none is the top type
top_parent : (top text : Name) (ds : List Declared) (d : Declared) (p : ℕ) → is_defined ds top ≡ false → d.parents ≡ [] → IsIn p (map (number_of (names_of top text ds)) (parent_names top d)) → p ≡ 0
top_parent top text ds d p none childless h =
    go (not (bytes_eq d.name top)) (subst (λ ps. IsIn p (map (number_of (names_of top text ds)) (cond ((length ps == 0) && not (bytes_eq d.name top)) (top ∷ []) ps))) childless h)
  where
    go : (b : Bool) → IsIn p (map (number_of (names_of top text ds)) (cond b (top ∷ []) [])) → p ≡ 0
    go true k = only _ k ∙ top_number top text ds none
      where
        only : (m : ℕ) → IsIn p (m ∷ []) → p ≡ m
        only _ here = refl
        only m (there r) = elim r [ ]
    go false k = elim k [ ]

one_number : (a b : ℕ) → Some a ≡ Some b → a ≡ b
one_number a b e = cc

module _ (top text : Name) (ps : List PlacedTree) (h : TypeTable) (added : List (List ℕ)) (strings : List Name)
    (faultless : IsFaultless top text (decls_in ps)) (written : IsHierarchyOf top text (decls_in ps) h) (rising : IsHierarchy h) (family : IsFamily h (h.sets ++ added)) where
  abbrev ds : List Declared
  ds = decls_in ps

  abbrev us : List Declared
  us = unwritten top text ds

  abbrev types : TypeTable
  types = table_of h added strings

  abbrev names : List Name
  names = take (completed_count types) types.names

  order : IsOrder types
  order = completed_order h rising added strings family

  laws : HasTypeLaws types
  laws = type_laws types order (completed_closed h rising added strings family)

  top_free : is_defined ds top ≡ false
  top_free = top_undefined top ds faultless.no_reserved

  one_first : 0 < length us
  one_first = omega (arith, ap length (top_first top text ds top_free))

  types_count : length (types_of top text ds) ≡ length us + length ds
  types_count = length-append us ds

  count : h.written ≡ length us + length ds
  count = written.all_written ∙ ap length written.names_are ∙ length-map (types_of top text ds) (λ d. d.name) ∙ types_count

  sets_count : length h.sets ≡ h.written
  sets_count = written.one_each ∙ sym written.all_written

  names_count : length h.names ≡ h.written
  names_count = sym written.all_written

  completed : completed_count types ≡ h.written + length added
  completed = length-append h.sets added ∙ ap (λ n. n + length added) sets_count

  top_there : 0 < completed_count types
  top_there = omega (arith, completed, count, one_first)

  front_count : length (h.names ++ map glb_name (range_with_len 1 (length added))) ≡ completed_count types
  front_count = omega (arith, completed, names_count, length-append h.names (map glb_name (range_with_len 1 (length added))), length-map-range_with_len glb_name 1 (length added))

  strings_there : strings_of types ≡ strings
  strings_there = drop_at (h.names ++ map glb_name (range_with_len 1 (length added))) strings (completed_count types) front_count

  -- the names of written types
  name_here : (t : ℕ) → t < h.written → get_or names t [] ≡ (at_place (types_of top text ds) t).name
  name_here t l =
      get_or-take (completed_count types) types.names t [] (omega (arith, completed, l))
      ∙ get_or_append_left (h.names ++ map glb_name (range_with_len 1 (length added))) strings [] t (omega (arith, l, front_count, completed))
      ∙ get_or_append_left h.names (map glb_name (range_with_len 1 (length added))) [] t (omega (arith, l, names_count))
      ∙ ap (λ ns. get_or ns t []) written.names_are
      ∙ get_or-map (λ d. d.name) (types_of top text ds) t (bare []) [] (omega (arith, l, count, types_count))

  name_unwritten : (t : ℕ) → t < length us → get_or names t [] ≡ (at_place us t).name
  name_unwritten t l = name_here t (omega (arith, l, count)) ∙ ap (λ d. d.name) (get_or_append_left us ds (bare []) t l)

  name_declared : (i : ℕ) → i < length ds → get_or names (length us + i) [] ≡ (at_place ds i).name
  name_declared i l = name_here (length us + i) (omega (arith, l, count)) ∙ ap (λ d. d.name) (get_or-append-add us ds i (bare []))

  -- no type before one that is defined has its name
  not_unwritten : (i j : ℕ) → i < length ds → j < length us → bytes_eq (at_place ds i).name (at_place us j).name ≡ false
  not_unwritten i j l k = go (bools (bytes_eq (at_place ds i).name (at_place us j).name))
    where
      go : (bytes_eq (at_place ds i).name (at_place us j).name ≡ true) ⊎ (bytes_eq (at_place ds i).name (at_place us j).name ≡ false) → bytes_eq (at_place ds i).name (at_place us j).name ≡ false
      go (inl e) = true_not_false _ (any_at (λ d. bytes_eq (at_place ds i).name d.name) us j (bare []) k e) (unwritten_apart top text ds (at_place ds i).name (is_defined_at ds i l))
      go (inr e) = e

  not_earlier : (i j : ℕ) → i < length ds → j < i → bytes_eq (at_place ds i).name (at_place ds j).name ≡ false
  not_earlier i j l k = go (bools (bytes_eq (at_place ds i).name (at_place ds j).name))
    where
      same : at_place (take i ds) j ≡ at_place ds j
      same = get_or-take i ds j (bare []) k

      go : (bytes_eq (at_place ds i).name (at_place ds j).name ≡ true) ⊎ (bytes_eq (at_place ds i).name (at_place ds j).name ≡ false) → bytes_eq (at_place ds i).name (at_place ds j).name ≡ false
      go (inl e) =
          absurd (faultless.no_duplicate i (l, any_at (λ d. bytes_eq (at_place ds i).name d.name) (take i ds) j (bare []) (omega (arith, k, l, length-take i ds)) (ap (λ d. bytes_eq (at_place ds i).name d.name) same ∙ e)))
      go (inr e) = e

  named_at : (i : ℕ) → i < length ds → type_named types (at_place ds i).name ≡ Some (length us + i)
  named_at i l = place_found (bytes_eq (at_place ds i).name) names (length us + i) inside (λ j k. before j k (cases_lt j (length us))) (bytes_eq-refl (at_place ds i).name _ (sym (name_declared i l)))
    where
      inside : length us + i < length names
      inside = omega (arith, l, count, completed, length-take (completed_count types) types.names, order.named)

      before : (j : ℕ) → j < length us + i → (j < length us) ⊎ (length us ≤ j) → bytes_eq (at_place ds i).name (get_or names j []) ≡ false
      before j k (inl m) = ap (bytes_eq (at_place ds i).name) (name_unwritten j m) ∙ not_unwritten i j l m
      before j k (inr m) =
          let at : j ≡ length us + (j - length us) = omega (arith, m) in
          ap (bytes_eq (at_place ds i).name) (ap (λ x. get_or names x []) at ∙ name_declared (j - length us) (omega (arith, k, l))) ∙ not_earlier i (j - length us) l (omega (arith, k, m))

  -- the place of a definition of a type among all of them
  abbrev rank : ℕ → ℕ
  rank k = length (filter defines_type (take k ps))

  definitions_count : length ds ≡ length (type_definitions ps)
  definitions_count = length-map (type_definitions ps) (declared_in ps)

  ranked : (k : ℕ) → k < length ps → defines_type (statement_at ps k) ≡ true → rank k < length ds
  ranked k l e = omega (arith, definitions_count, (kept_at defines_type ps k no_statement l e).0)

  numbered : (k : ℕ) → k < length ps → defines_type (statement_at ps k) ≡ true → type_named types (name_of (statement_at ps k)) ≡ Some (length us + rank k)
  numbered k l e =
      let r = kept_at defines_type ps k no_statement l e in
      let inside = ranked k l e in
      ap (type_named types) (sym (ap (λ p. name_written p.statement) r.1) ∙ sym (name_at ps (rank k) inside)) ∙ named_at (rank k) inside

  -- each type that is declared is defined, and these have numbers after those that aren't
  defined_at : (i : ℕ) → i < length ds → IsDefined types ps (length us + i)
  defined_at i l =
      let s : Stands defines_type ps (type_definitions ps) i no_statement = stands_at defines_type ps i no_statement (within ps i l) in (
        s.place,
        s.inside,
        s.passes,
        ap (type_named types) (sym (name_at ps i l ∙ ap (λ p. name_written p.statement) s.same)) ∙ named_at i l,
      )

  defined_from : (t : ℕ) → length us ≤ t → t < h.written → IsDefined types ps t
  defined_from t low l =
      let at : t ≡ length us + (t - length us) = omega (arith, low) in
      subst (IsDefined types ps) (sym at) (defined_at (t - length us) (omega (arith, low, l, count)))

  defined_past : (u : ℕ) → IsDefined types ps u → (length us ≤ u) × (u < h.written)
  defined_past u d =
      let same : length us + rank d.0 ≡ u = one_number _ _ (sym (numbered d.0 d.1 d.2) ∙ d.3) in
      (omega (arith, same), omega (arith, same, ranked d.0 d.1 d.2, count))

  rises : (j k a b : ℕ) → j < k → k < length ps → defines_type (statement_at ps j) ≡ true → defines_type (statement_at ps k) ≡ true →
      type_named types (name_of (statement_at ps j)) ≡ Some a → type_named types (name_of (statement_at ps k)) ≡ Some b → a < b
  rises j k a b lt l d e m n =
      omega (
        arith,
        one_number _ _ (sym m ∙ numbered j (omega (arith, lt, l)) d),
        one_number _ _ (sym n ∙ numbered k l e),
        kept_rises defines_type ps j k no_statement lt (omega (arith, l)) d,
      )

  -- a member of a type's set is below the type
  lower : (a b : ℕ) → a < h.written → b < completed_count types → has_member (set_of types b) a ≡ true → is_below types a b ≡ true
  lower a b l k m = below_sets types a b (omega (arith, l, completed)) ∙ set_below types a b k (λ x n. order.down a b x l k m n)

  top_in_none : (b : ℕ) → 0 < b → b < completed_count types → has_member (set_of types b) 0 ≡ true → ⊥
  top_in_none b l k m =
      let same : 0 ≡ b = laws.antisymmetric 0 b (lower 0 b (omega (arith, count, one_first)) k m) (laws.below_top b) in
      omega (arith, same, l)

  set_left : (a : ℕ) → a < h.written → set_of types a ≡ set_of h a
  set_left a l = get_or_append_left h.sets added [] a (omega (arith, l, sets_count))

  parent_is_top : (t p : ℕ) → t < length us → IsIn p (get_or (parents_of top text ds) t []) → p ≡ 0
  parent_is_top t p l m =
      top_parent top text ds (at_place us t) p top_free (no_parents top text ds t l)
      (subst (IsIn p) (get_or-map (λ d. map (number_of (names_of top text ds)) (parent_names top d)) (types_of top text ds) t (bare []) [] (omega (arith, l, types_count))
      ∙ ap (λ d. map (number_of (names_of top text ds)) (parent_names top d)) (get_or_append_left us ds (bare []) t l)) m)

  none_above : (t : ℕ) → t < length us → HasNoneAbove types ps t
  none_above t l u d low = climb u past.0 past.1 ((written.sets_are t u in_t past.1).0 member)
    where
      past : (length us ≤ u) × (u < h.written)
      past = defined_past u d

      in_t : t < h.written
      in_t = omega (arith, l, count)

      member : has_member (set_of h u) t ≡ true
      member = ap (λ s. has_member s t) (sym (set_left u past.1)) ∙ set_below_members types t u t (sym (below_sets types t u (omega (arith, in_t, completed))) ∙ low) (order.own t in_t)

      climb : (v : ℕ) → length us ≤ v → v < h.written → IsAtOrBelow (parents_of top text ds) t v → ⊥
      climb v a b (itself _) = omega (arith, l, a)
      climb v a b (above_parent _ p _ k r) =
          let at_top : IsAtOrBelow (parents_of top text ds) 0 v = subst (λ x. IsAtOrBelow (parents_of top text ds) x v) (parent_is_top t p l k) r in
          top_in_none v (omega (arith, a, one_first)) (omega (arith, b, completed)) (ap (λ s. has_member s 0) (set_left v b) ∙ (written.sets_are 0 v (omega (arith, count, one_first)) b).1 at_top)

  -- whether a number is one of a type that is defined
  abbrev is_past : ℕ → Bool
  is_past y = not (nat_lt y (length us))

  member_at : (xs : List ℕ) (i : ℕ) → i < length xs → has_member xs (get_or xs i 0) ≡ true
  member_at xs i l = any_at (λ y. y == get_or xs i 0) xs i 0 l (eq_true (get_or xs i 0))

  -- a member of an added type's set is defined, or would be the string type alone
  lesser_below : (t : ℕ) → h.written ≤ t → t < completed_count types → HasLesserBelow types ps t
  lesser_below t low l = look (bools (list_any is_past (set_of types t)))
    where
      found : (x : ℕ) → has_member (set_of types t) x ≡ true → length us ≤ x → HasLesserBelow types ps t
      found x m past =
          let inside : x < h.written = rising_below h.written (set_of types t) x (order.rising t l) m in
          (x, defined_from x past inside, omega (arith, inside, low), lower x t inside l m)

      past_of : (x : ℕ) → is_past x ≡ true → length us ≤ x
      past_of x e = go (cases_lt x (length us))
        where
          go : (x < length us) ⊎ (length us ≤ x) → length us ≤ x
          go (inl k) = true_not_false (is_past x) e (ap not (lt_true x (length us) k))
          go (inr k) = k

      look : (list_any is_past (set_of types t) ≡ true) ⊎ (list_any is_past (set_of types t) ≡ false) → HasLesserBelow types ps t
      look (inl e) = let r = any_index is_past 0 (set_of types t) e in found (get_or (set_of types t) r.0 0) (member_at (set_of types t) r.0 r.1) (past_of (get_or (set_of types t) r.0 0) r.2)
      look (inr none) = absurd (omega (arith, same, inside, low))
        where
          all_before : (y : ℕ) → has_member (set_of types t) y ≡ true → y < length us
          all_before y m = go (cases_lt y (length us))
            where
              go : (y < length us) ⊎ (length us ≤ y) → y < length us
              go (inl k) = k
              go (inr k) =
                  let r = any_index (λ z. z == y) 0 (set_of types t) m in
                  let is : get_or (set_of types t) r.0 0 ≡ y = eq_of (get_or (set_of types t) r.0 0) y r.2 in
                  true_not_false (list_any is_past (set_of types t)) (any_at is_past (set_of types t) r.0 0 r.1 (ap not (ap (λ z. nat_lt z (length us)) is ∙ lt_false y (length us) k))) none

          not_top : (y : ℕ) → has_member (set_of types t) y ≡ true → 0 < y
          not_top y m = go (cases_lt 0 y)
            where
              go : (0 < y) ⊎ (y ≤ 0) → 0 < y
              go (inl k) = k
              go (inr k) = let zero_is : y ≡ 0 = omega (arith, k) in absurd (top_in_none t (omega (arith, low, count, one_first)) l (subst (λ z. has_member (set_of types t) z ≡ true) zero_is m))

          one_member : (y : ℕ) → has_member (set_of types t) y ≡ true → y ≡ 1
          one_member y m = omega (arith, all_before y m, not_top y m, few_unwritten top text ds)

          some : (x : ℕ) × (has_member (set_of types t) x ≡ true)
          some = some_member (set_of types t) (order.nonempty t l)

          inside : some.0 < h.written
          inside = omega (arith, all_before some.0 some.1, count)

          within_it : (y : ℕ) → has_member (set_of types t) y ≡ true → has_member (set_of types some.0) y ≡ true
          within_it y m = subst (λ z. has_member (set_of types some.0) z ≡ true) (one_member some.0 some.1 ∙ sym (one_member y m)) (order.own some.0 inside)

          same : t ≡ some.0
          same = laws.antisymmetric t some.0 (below_sets types t some.0 l ∙ set_below types t some.0 (omega (arith, inside, completed)) within_it) (lower some.0 t inside l some.1)

  covered_at : (t : ℕ) → t < completed_count types → IsDefined types ps t ⊎ (HasLesserBelow types ps t ⊎ HasNoneAbove types ps t)
  covered_at t l = go (cases_lt t (length us)) (cases_lt t h.written)
    where
      go : (t < length us) ⊎ (length us ≤ t) → (t < h.written) ⊎ (h.written ≤ t) → IsDefined types ps t ⊎ (HasLesserBelow types ps t ⊎ HasNoneAbove types ps t)
      go (inl k) m = inr (inr (none_above t k))
      go (inr k) (inl m) = inl (defined_from t k m)
      go (inr k) (inr m) = inr (inl (lesser_below t m l))

  pub fits : ((k : ℕ) (s : Name) → k < length ps → (speaks_of_type (statement_at ps k) || defines_instance (statement_at ps k)) ≡ true → Has s (strings_of_body (body_of (statement_at ps k))) → Has s strings) →
      AreTypesFor types ps
  fits has = record {
    top_is_there = top_there;
    named = λ k l e. (length us + rank k, numbered k l e, omega (arith, one_first));
    rising = rises;
    covered = covered_at;
    strings = λ k s l e x. subst (Has s) (sym strings_there) (has k s l e x);
  }
