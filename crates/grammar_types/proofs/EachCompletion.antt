-- A hierarchy has a completion, or more nonempty intersections than may be.
use Rattle.std.proofs.Common.{ℕ, zero, suc, ◌≡◌, ◌≢◌, ◌<◌, ◌≤◌, ◌+◌, ◌⊎◌, inl, inr, Bool, true, false, List, [], ◌∷◌, ◌++◌, length, slice_index_or, All, Contains, refl, sym, ◌∙◌, ap, subst, arith}
use Rattle.std.specs.List.{list_any}
use Rattle.std.specs.Str.{bytes_eq}
use Rattle.std.proofs.lemmas.Bool.{cases_lt}
use Rattle.std.proofs.lemmas.List.{length-append, get_or_append_left, get_or-append-add, get_or_default, append_assoc, append-nil}
use Rattle.std.proofs.lemmas.List.Sorted.{length_permutation}
use Rattle.std.proofs.lemmas.Slice.Eq.{bytes_eq-Decides}
use Rattle.type_hierarchy.specs.Decls.{Name}
use Rattle.type_hierarchy.specs.Laws.{IsHierarchy}
use Rattle.type_hierarchy.specs.Table.{TypeTable, set_of, intersection, common, IsIntersection, IsDistinct, IsFamily, table_of}
use Rattle.type_hierarchy.proofs.FamilyLemmas.{common-append}
use Rattle.type_hierarchy.proofs.ListLemmas.{any_index, any_at}
use Rattle.glb_completion.specs.Completion.{IsCompletionOf, HasTooMany, most_completed}
use Rattle.glb_completion.proofs.GrowingLemmas.{own_common, own_intersection, narrowed}
use Rattle.glb_completion.proofs.SortLemmas.{family_reordered}
use Rattle.grammar_types.proofs.FirstPlaces.{FirstBelow, first_below}
use Rattle.grammar_types.proofs.SettleLists.{bools, true_not_false}
use Rattle.grammar_types.proofs.SortedLists.{InOrder, in_order}

contains_at : (xs : List (List ℕ)) (k : ℕ) (m : List ℕ) → k < length xs → slice_index_or xs k [] ≡ m → Contains xs m
contains_at xs k m h e = (k, h, get_or_default xs k m [] h ∙ e)

-- whether a set is empty, and whether it is one of these
empty_told : (s : List ℕ) → (s ≡ []) ⊎ (s ≢ [])
empty_told [] = inl refl
empty_told (x ∷ xs) = inr (λ e. cc)

abbrev IsAway : List (List ℕ) → List ℕ → Type 0
IsAway xs s = (k : ℕ) → k < length xs → slice_index_or xs k [] ≡ s → ⊥

among_told : (xs : List (List ℕ)) (s : List ℕ) → Contains xs s ⊎ IsAway xs s
among_told xs s = go (bools (list_any (bytes_eq s) xs))
  where
    go : (list_any (bytes_eq s) xs ≡ true) ⊎ (list_any (bytes_eq s) xs ≡ false) → Contains xs s ⊎ IsAway xs s
    go (inl e) = let r = any_index (bytes_eq s) [] xs e in inl (contains_at xs r.0 s r.1 (sym ((bytes_eq-Decides s (slice_index_or xs r.0 [])).0 r.2)))
    go (inr e) = inr (λ k h f. true_not_false _ (any_at (bytes_eq s) xs k [] h ((bytes_eq-Decides s (slice_index_or xs k [])).1 (sym f))) e)

module _ (h : TypeTable) (laws : IsHierarchy h) (strings : List Name) where
  abbrev sets : List (List ℕ) → List (List ℕ)
  sets added = h.sets ++ added

  abbrev met : List (List ℕ) → ℕ → ℕ → List ℕ
  met added i t = intersection (slice_index_or (sets added) i []) (set_of h t)

  -- intersections, each once
  pub record Begun (added : List (List ℕ)) : Type 0 where
    pub intersections : All (IsIntersection h) (sets added)
    pub once : IsDistinct (sets added)

  -- an intersection of a set and a written type that isn't there yet
  abbrev IsNew : List (List ℕ) → ℕ → ℕ → Type 0
  IsNew added i t = (met added i t ≢ []) × IsAway (sets added) (met added i t)

  new_told : (added : List (List ℕ)) (i t : ℕ) → IsNew added i t ⊎ (IsNew added i t → ⊥)
  new_told added i t = go (empty_told (met added i t)) (among_told (sets added) (met added i t))
    where
      go : (met added i t ≡ []) ⊎ (met added i t ≢ []) → Contains (sets added) (met added i t) ⊎ IsAway (sets added) (met added i t) → IsNew added i t ⊎ (IsNew added i t → ⊥)
      go (inl e) a = inr (λ n. n.0 e)
      go (inr e) (inl c) = inr (λ n. n.1 c.0 c.1 (get_or_default (sets added) c.0 [] (met added i t) c.1 ∙ c.2))
      go (inr e) (inr a) = inl (e, a)

  abbrev HasNew : List (List ℕ) → ℕ → Type 0
  HasNew added i = (t : ℕ) × (t < h.written) × IsNew added i t

  has_new_told : (added : List (List ℕ)) (i : ℕ) → HasNew added i ⊎ (HasNew added i → ⊥)
  has_new_told added i = go (first_below (IsNew added i) (new_told added i) h.written)
    where
      go : FirstBelow (IsNew added i) h.written → HasNew added i ⊎ (HasNew added i → ⊥)
      go (inl r) = inl (r.0, r.1, r.2)
      go (inr none) = inr (λ n. none n.0 n.1 n.2)

  -- each intersection with a written type is there
  abbrev IsShut : List (List ℕ) → Type 0
  IsShut added = (i t : ℕ) → i < length (sets added) → t < h.written → met added i t ≢ [] → Contains (sets added) (met added i t)

  shut_of : (added : List (List ℕ)) → ((i : ℕ) → i < length (sets added) → HasNew added i → ⊥) → IsShut added
  shut_of added none i t l k ne = go (among_told (sets added) (met added i t))
    where
      go : Contains (sets added) (met added i t) ⊎ IsAway (sets added) (met added i t) → Contains (sets added) (met added i t)
      go (inl c) = c
      go (inr a) = absurd (none i l (t, k, (ne, a)))

  -- one set more
  longer : (added : List (List ℕ)) (s : List ℕ) → sets (added ++ s ∷ []) ≡ sets added ++ s ∷ []
  longer added s = sym (append_assoc h.sets added (s ∷ []))

  all_more : (xs : List (List ℕ)) (s : List ℕ) → All (IsIntersection h) xs → IsIntersection h s → All (IsIntersection h) (xs ++ s ∷ [])
  all_more [] s a i zero d l = i
  all_more [] s a i (suc k) d l = absurd (omega (arith, l))
  all_more (x ∷ xs) s a i zero d l = a 0 d (omega arith)
  all_more (x ∷ xs) s a i (suc k) d l = all_more xs s (λ j e m. a (suc j) e (omega (arith, m))) i k d (omega (arith, l))

  apart_more : (xs : List (List ℕ)) (s : List ℕ) → IsDistinct xs → IsAway xs s → IsDistinct (xs ++ s ∷ [])
  apart_more xs s once away i j less within e = go (cases_lt j (length xs))
    where
      size : length (xs ++ s ∷ []) ≡ length xs + 1
      size = length-append xs (s ∷ [])

      old : (k : ℕ) → k < length xs → slice_index_or (xs ++ s ∷ []) k [] ≡ slice_index_or xs k []
      old k l = get_or_append_left xs (s ∷ []) [] k l

      go : (j < length xs) ⊎ (length xs ≤ j) → ⊥
      go (inl l) = once i j less l (sym (old i (omega (arith, less, l))) ∙ e ∙ old j l)
      go (inr l) =
          let last : length xs + 0 ≡ j = omega (arith, l, within, size) in
          away i (omega (arith, less, l, within, size)) (sym (old i (omega (arith, less, l, within, size))) ∙ e ∙ sym (ap (λ k. slice_index_or (xs ++ s ∷ []) k []) last) ∙ get_or-append-add xs (s ∷ []) 0 [])

  more : (added : List (List ℕ)) (i t : ℕ) → Begun added → i < length (sets added) → t < h.written → IsNew added i t → Begun (added ++ met added i t ∷ [])
  more added i t b l k n = record {
    intersections = subst (All (IsIntersection h)) (sym (longer added (met added i t))) (all_more (sets added) (met added i t) b.intersections (narrowed h laws (slice_index_or (sets added) i []) t (b.intersections i [] l) k n.0));
    once = subst IsDistinct (sym (longer added (met added i t))) (apart_more (sets added) (met added i t) b.once n.1);
  }

  longer_by_one : (added : List (List ℕ)) (s : List ℕ) → length (sets (added ++ s ∷ [])) ≡ length (sets added) + 1
  longer_by_one added s = ap length (longer added s) ∙ length-append (sets added) (s ∷ [])

  -- where each intersection with a written type is there, each intersection is
  own_there : (added : List (List ℕ)) (t : ℕ) → t < h.written → Contains (sets added) (set_of h t)
  own_there added t l =
      let in_sets : t < length h.sets = omega (arith, l, laws.order.written_first) in
      contains_at (sets added) t (set_of h t) (omega (arith, in_sets, length-append h.sets added)) (get_or_append_left h.sets added [] t in_sets)

  empty_met : (xs ys : List ℕ) → xs ≡ [] → intersection xs ys ≡ []
  empty_met xs ys e = ap (λ s. intersection s ys) e

  narrower : (t : ℕ) (ts : List ℕ) → t < h.written → common h (t ∷ ts) ≡ intersection (common h ts) (set_of h t)
  narrower t ts l = sym (common-append h ts (t ∷ [])) ∙ sym (ap (intersection (common h ts)) (own_common h laws t l))

  whole : (added : List (List ℕ)) → IsShut added → (ts : List ℕ) → 0 < length ts → All (λ t. t < h.written) ts → common h ts ≢ [] → Contains (sets added) (common h ts)
  whole added shut [] some within ne = absurd (omega (arith, some))
  whole added shut (t ∷ []) some within ne = subst (Contains (sets added)) (own_common h laws t (within 0 0 (omega arith))) (own_there added t (within 0 0 (omega arith)))
  whole added shut (t ∷ u ∷ us) some within ne = go (whole added shut (u ∷ us) (omega arith) (λ k d l. within (suc k) d (omega (arith, l))))
    where
      here_in : t < h.written
      here_in = within 0 0 (omega arith)

      is : common h (t ∷ u ∷ us) ≡ intersection (common h (u ∷ us)) (set_of h t)
      is = narrower t (u ∷ us) here_in

      go : (common h (u ∷ us) ≢ [] → Contains (sets added) (common h (u ∷ us))) → Contains (sets added) (common h (t ∷ u ∷ us))
      go later =
          let c : Contains (sets added) (common h (u ∷ us)) = later (λ e. ne (is ∙ empty_met (common h (u ∷ us)) (set_of h t) e)) in
          let at : met added c.0 t ≡ common h (t ∷ u ∷ us) = ap (λ s. intersection s (set_of h t)) (get_or_default (sets added) c.0 [] (common h (u ∷ us)) c.1 ∙ c.2) ∙ sym is in
          subst (Contains (sets added)) at (shut c.0 t c.1 here_in (λ e. ne (sym at ∙ e)))

  family : (added : List (List ℕ)) → Begun added → IsShut added → IsFamily h (sets added)
  family added b shut = record {
    intersections = b.intersections;
    whole = λ members i. subst (Contains (sets added)) (sym i.is_common) (whole added shut i.types i.one i.in_range (λ e. i.nonempty (i.is_common ∙ e)));
    once = b.once;
  }

  -- the completion, or too many sets
  abbrev HasEnd : Type 0
  HasEnd = ((t : TypeTable) × IsCompletionOf h strings t) ⊎ HasTooMany h

  completed : (added : List (List ℕ)) → Begun added → IsShut added → length (sets added) ≤ most_completed → HasEnd
  completed added b shut few = go (in_order added)
    where
      go : InOrder added → HasEnd
      go r = inl (
        table_of h r.all strings,
        record {
          added = r.all;
          table_is = refl;
          family = family_reordered h h.sets added r.all (family added b shut) r.shuffled;
          in_order = r.sorted;
          few = omega (arith, few, length-append h.sets added, length-append h.sets r.all, length_permutation added r.all r.shuffled);
        },
      )

  grow : (room : ℕ) (added : List (List ℕ)) → Begun added → most_completed < length (sets added) + room → HasEnd
  grow zero added b full = inr (record { sets = sets added; intersections = b.intersections; distinct = b.once; many = omega (arith, full) })
  grow (suc room) added b full = go (first_below (HasNew added) (has_new_told added) (length (sets added))) (λ s c f. grow room (added ++ s ∷ []) c f)
    where
      shut_end : IsShut added → (most_completed < length (sets added)) ⊎ (length (sets added) ≤ most_completed) → HasEnd
      shut_end shut (inl many) = inr (record { sets = sets added; intersections = b.intersections; distinct = b.once; many = many })
      shut_end shut (inr few) = completed added b shut few

      go : FirstBelow (HasNew added) (length (sets added)) → ((s : List ℕ) → Begun (added ++ s ∷ []) → most_completed < length (sets (added ++ s ∷ [])) + room → HasEnd) → HasEnd
      go (inl r) later = later (met added r.0 r.2.0) (more added r.0 r.2.0 b r.1 r.2.1 r.2.2) (omega (arith, full, longer_by_one added (met added r.0 r.2.0)))
      go (inr none) later = shut_end (shut_of added none) (cases_lt most_completed (length (sets added)))

  own_all : All (IsIntersection h) h.sets
  own_all k d l = subst (IsIntersection h) (get_or_default h.sets k [] d l) (own_intersection h laws k (omega (arith, l, laws.all_written)))

  begun : Begun []
  begun = record {
    intersections = subst (All (IsIntersection h)) (sym (append-nil h.sets)) own_all;
    once = subst IsDistinct (sym (append-nil h.sets)) laws.order.distinct;
  }

  pub end_of : HasEnd
  end_of = grow 65536 [] begun (omega arith)
