-- Declarations without a fault have a hierarchy.
use Rattle.std.proofs.Common.{ℕ, zero, suc, ◌≡◌, ◌≢◌, ◌<◌, ◌≤◌, ◌+◌, ◌↔◌, ◌==◌, ◌&&◌, ◌⊎◌, inl, inr, Bool, true, false, cond, List, [], ◌∷◌, ◌++◌, length, map, filter, slice_index_or, refl, sym, ◌∙◌, ap, subst, arith}
use Rattle.std.specs.List.{range_with_len}
use Rattle.std.proofs.lemmas.Bool.{cases_lt}
use Rattle.std.proofs.lemmas.List.{length-map, length-append}
use Rattle.std.proofs.lemmas.List.FromFn.{length-map-range_with_len, get_or-map-range_with_len}
use Rattle.type_hierarchy.specs.Decls.{Name, Declared, unwritten, types_of, names_of, parents_of, number_of}
use Rattle.type_hierarchy.specs.Faults.{IsFaultless, most_types}
use Rattle.type_hierarchy.specs.Laws.{IsHierarchy, IsOrder}
use Rattle.type_hierarchy.specs.Order.{IsAtOrBelow, itself, above_parent, IsBelow, Has}
use Rattle.type_hierarchy.specs.Table.{TypeTable, IsHierarchyOf, set_of, has_member}
use Rattle.type_hierarchy.proofs.DeclLemmas.{rooted, number_in, top_undefined}
use Rattle.type_hierarchy.proofs.HierarchyLemmas.{IsRooted, below_trans, below_anti}
use Rattle.type_hierarchy.proofs.SetLemmas.{eq_of, or_cases, member_filter, member_range, rising_filter, rising_below, not_empty}
use Rattle.grammar_types.proofs.Unwritten.{few_unwritten, top_first}
use Rattle.grammar_types.proofs.ReachedNodes.{is_reached, reached_so, so_reached}
use Rattle.grammar_types.proofs.SettleLists.{bools, true_not_false}

-- fewer pass a stricter test
fewer_pass : (p q : ℕ → Bool) (xs : List ℕ) → ((x : ℕ) → p x ≡ true → q x ≡ true) → length (filter p xs) ≤ length (filter q xs)
fewer_pass p q [] h = omega arith
fewer_pass p q (x ∷ xs) h = go (p x) (q x) (h x) (fewer_pass p q xs h)
  where
    go : (a b : Bool) → (a ≡ true → b ≡ true) → length (filter p xs) ≤ length (filter q xs) → length (cond a (x ∷ filter p xs) (filter p xs)) ≤ length (cond b (x ∷ filter q xs) (filter q xs))
    go true true f l = omega (arith, l)
    go true false f l = true_not_false false (f refl) refl
    go false true f l = omega (arith, l)
    go false false f l = l

one_less : (p q : ℕ → Bool) (y : ℕ) → p y ≡ false → q y ≡ true → ((x : ℕ) → p x ≡ true → q x ≡ true) → (xs : List ℕ) → has_member xs y ≡ true → length (filter p xs) < length (filter q xs)
one_less p q y e f h [] m = true_not_false false m refl
one_less p q y e f h (x ∷ xs) m = go (or_cases (x == y) (has_member xs y) m) (one_less p q y e f h xs) (fewer_pass p q xs h)
  where
    here_it : (a b : Bool) → a ≡ false → b ≡ true → length (filter p xs) ≤ length (filter q xs) → length (cond a (x ∷ filter p xs) (filter p xs)) < length (cond b (x ∷ filter q xs) (filter q xs))
    here_it false true s t l = omega (arith, l)
    here_it true b s t l = true_not_false true refl s
    here_it false false s t l = true_not_false false t refl

    later : (a b : Bool) → (a ≡ true → b ≡ true) → length (filter p xs) < length (filter q xs) → length (cond a (x ∷ filter p xs) (filter p xs)) < length (cond b (x ∷ filter q xs) (filter q xs))
    later true true s l = omega (arith, l)
    later true false s l = true_not_false false (s refl) refl
    later false true s l = omega (arith, l)
    later false false s l = l

    go : ((x == y) ≡ true) ⊎ (has_member xs y ≡ true) → (has_member xs y ≡ true → length (filter p xs) < length (filter q xs)) → length (filter p xs) ≤ length (filter q xs) → length (filter p (x ∷ xs)) < length (filter q (x ∷ xs))
    go (inl s) rest l = here_it (p x) (q x) (ap p (eq_of x y s) ∙ e) (ap q (eq_of x y s) ∙ f) l
    go (inr k) rest l = later (p x) (q x) (h x) (rest k)

module _ (top text : Name) (ds : List Declared) (apart : top ≡ text → ⊥) (is : IsFaultless top text ds) where
  abbrev pub ps : List (List ℕ)
  ps = parents_of top text ds

  abbrev pub n : ℕ
  n = length (types_of top text ds)

  is_rooted : IsRooted ps n
  is_rooted = rooted top text ds apart is.no_cycle is.no_reserved

  -- the types that are at or below one
  abbrev pub lower : ℕ → List ℕ
  lower b = filter (λ a. is_reached ps a b) (range_with_len 0 n)

  abbrev pub table : TypeTable
  table = record { names = names_of top text ds; sets = map lower (range_with_len 0 n); written = n; string_type = number_of (names_of top text ds) text }

  sets_count : length table.sets ≡ n
  sets_count = length-map-range_with_len lower 0 n

  names_count : length table.names ≡ n
  names_count = length-map (types_of top text ds) (λ d. d.name)

  set_at : (b : ℕ) → b < n → set_of table b ≡ lower b
  set_at b h = get_or-map-range_with_len lower 0 n b b [] h (omega arith)

  and_true : (a b : Bool) → b ≡ true → (a && b) ≡ a
  and_true true b e = e
  and_true false b e = refl

  member_at : (a b : ℕ) → a < n → b < n → has_member (set_of table b) a ≡ is_reached ps a b
  member_at a b h k =
      ap (λ s. has_member s a) (set_at b k) ∙ member_filter (λ x. is_reached ps x b) (range_with_len 0 n) a
      ∙ and_true (is_reached ps a b) (has_member (range_with_len 0 n) a) (member_range 0 n a (omega arith) (omega (arith, h)))

  told : (a b : ℕ) → a < n → b < n → (has_member (set_of table b) a ≡ true) ↔ IsAtOrBelow ps a b
  told a b h k = ((λ e. reached_so ps a b (sym (member_at a b h k) ∙ e)), (λ r. member_at a b h k ∙ so_reached ps a b r))

  -- the top type is above all
  above_all : (k t : ℕ) → t < n → length (filter (is_reached ps t) (range_with_len 0 n)) ≤ k → IsAtOrBelow ps t 0
  above_all zero t h l =
      absurd (omega (arith, l, one_less (λ x. false) (is_reached ps t) t refl (so_reached ps t t (itself t)) (λ x e. true_not_false false e refl) (range_with_len 0 n) (member_range 0 n t (omega arith) (omega (arith, h)))))
  above_all (suc k) t h l = go (cases_lt 0 t) (above_all k)
    where
      go : (0 < t) ⊎ (t ≤ 0) → ((u : ℕ) → u < n → length (filter (is_reached ps u) (range_with_len 0 n)) ≤ k → IsAtOrBelow ps u 0) → IsAtOrBelow ps t 0
      go (inr z) later = let same : 0 ≡ t = omega (arith, z) in subst (λ x. IsAtOrBelow ps x 0) same (itself 0)
      go (inl s) later = above_parent t up.0 0 up.1 (later up.0 (is_rooted.in_range t up.0 up.1) (omega (arith, l, less)))
        where
          up : (p : ℕ) × Has p (slice_index_or ps t [])
          up = is_rooted.parent t s h

          not_up : (is_reached ps up.0 t ≡ true) ⊎ (is_reached ps up.0 t ≡ false) → is_reached ps up.0 t ≡ false
          not_up (inl e) = absurd (is_rooted.no_cycle t h (up.0, up.1, reached_so ps up.0 t e))
          not_up (inr e) = e

          less : length (filter (is_reached ps up.0) (range_with_len 0 n)) < length (filter (is_reached ps t) (range_with_len 0 n))
          less =
              one_less (is_reached ps up.0) (is_reached ps t) t (not_up (bools (is_reached ps up.0 t))) (so_reached ps t t (itself t))
              (λ x e. so_reached ps t x (above_parent t up.0 x up.1 (reached_so ps up.0 x e))) (range_with_len 0 n) (member_range 0 n t (omega arith) (omega (arith, h)))

  all_pass : (p : ℕ → Bool) (xs : List ℕ) → length (filter p xs) ≤ length xs
  all_pass p [] = omega arith
  all_pass p (x ∷ xs) = go (p x) (all_pass p xs)
    where
      go : (b : Bool) → length (filter p xs) ≤ length xs → length (cond b (x ∷ filter p xs) (filter p xs)) ≤ length (x ∷ xs)
      go true l = omega (arith, l)
      go false l = omega (arith, l)

  types_count : n ≡ length (unwritten top text ds) + length ds
  types_count = length-append (unwritten top text ds) ds

  some : 0 < n
  some = omega (arith, types_count, ap length (top_first top text ds (top_undefined top ds is.no_reserved)))

  pub hierarchy : IsHierarchyOf top text ds table
  hierarchy = record { names_are = refl; one_each = sets_count ∙ sym names_count; all_written = sym names_count; string_is = refl; sets_are = told }

  rises : (a : ℕ) → a < n → set_of table a ≡ filter (has_member (set_of table a)) (range_with_len 0 n)
  rises a h = subst (λ s. s ≡ filter (has_member s) (range_with_len 0 n)) (sym (set_at a h)) (rising_filter (λ x. is_reached ps x a) n)

  apart_sets : (i j : ℕ) → i < j → j < n → set_of table i ≢ set_of table j
  apart_sets i j h k e =
      let i_in : i < n = omega (arith, h, k) in
      let up : IsAtOrBelow ps j i = (told j i k i_in).0 (ap (λ s. has_member s j) e ∙ (told j j k k).1 (itself j)) in
      let low : IsAtOrBelow ps i j = (told i j i_in k).0 (ap (λ s. has_member s i) (sym e) ∙ (told i i i_in i_in).1 (itself i)) in
      let same : i ≡ j = below_anti ps i j (is_rooted.no_cycle i i_in) low up in
      omega (arith, same, h)

  order : IsOrder table
  order = record {
    at_least_top = some;
    written_first = omega (arith, sets_count);
    named = omega (arith, sets_count, names_count);
    string_in = omega (arith, number_in (names_of top text ds) text (omega (arith, names_count, some)), names_count);
    rising = λ a h. rises a (omega (arith, h, sets_count));
    nonempty = λ a h. let k : a < n = omega (arith, h, sets_count) in not_empty (set_of table a) a ((told a a k k).1 (itself a));
    distinct = λ i j h k. apart_sets i j h (omega (arith, k, sets_count));
    own = λ a h. (told a a h h).1 (itself a);
    down = λ a b x h k m l. let b_in : b < n = omega (arith, k, sets_count) in let x_in : x < n = rising_below n (set_of table a) x (rises a h) l in
        (told x b x_in b_in).1 (below_trans ps x a b ((told x a x_in h).0 l) ((told a b h b_in).0 m));
    top_has_all = λ x h. (told x 0 h some).1 (above_all (length (range_with_len 0 n)) x h (all_pass (is_reached ps x) (range_with_len 0 n)));
  }

  pub rising : IsHierarchy table
  rising = record { order = order; all_written = sym sets_count; all_named = names_count ∙ sym sets_count; few = omega (arith, types_count, few_unwritten top text ds, is.few) }
