-- Lists one after another, with the place where each begins.
use Rattle.std.proofs.Common.{ℕ, zero, suc, ◌≡◌, ◌≤◌, ◌<◌, ◌+◌, ◌-◌, ◌⊎◌, inl, inr, List, [], ◌∷◌, ◌++◌, length, map, take, drop, slice_index, slice_index_or, refl, sym, ◌∙◌, ap, arith, append-nil, length-append}
use Rattle.std.specs.List.{range_with_len, between, flat_map}
use Rattle.std.proofs.lemmas.Bool.{cases_lt}
use Rattle.std.proofs.lemmas.List.{take_more, take_all, take_at, drop_at, length_push, get_or_push, get_or_append_left}
use Rattle.std.proofs.lemmas.List.Concat.{flat_map-append}
use Rattle.std.proofs.lemmas.List.FromFn.{get_or-map-range_with_len, length-map-range_with_len, map-range_with_len_more}
use Rattle.fs_graph.specs.declared.graph.GraphArc.{GraphArc}
use Rattle.fs_graph.specs.Inside.{row, AreRows}
use Rattle.fs_graph.specs.Inner.Renumbering.{starts_of}

-- a part of three
between_part : {X : Type 0} (a b c : List X) (i j : ℕ) → length a ≡ i → length a + length b ≡ j → between i j (a ++ (b ++ c)) ≡ b
between_part a b c i j e d = ap (take (j - i)) (drop_at a (b ++ c) i e) ∙ take_at b c (j - i) (omega arith)

split_at : {X : Type 0} (xs : List X) (i : ℕ) (d : X) → i < length xs → xs ≡ take i xs ++ slice_index_or xs i d ∷ drop (suc i) xs
split_at [] i d h = absurd (omega arith)
split_at (x ∷ xs) zero d h = refl
split_at (x ∷ xs) (suc i) d h = ap (λ l. x ∷ l) (split_at xs i d (omega arith))

pub flat-more : {X A : Type 0} (f : X → List A) (xs : List X) (i : ℕ) (d : X) → i < length xs →
    flat_map f (take (i + 1) xs) ≡ flat_map f (take i xs) ++ f (slice_index_or xs i d)
flat-more f xs i d h =
    ap (flat_map f) (take_more xs i d h) ∙ flat_map-append f (take i xs) (slice_index_or xs i d ∷ [])
    ∙ ap (λ l. flat_map f (take i xs) ++ l) (append-nil (f (slice_index_or xs i d)))

flat-split : {X A : Type 0} (f : X → List A) (xs : List X) (i : ℕ) (d : X) → i < length xs →
    flat_map f xs ≡ flat_map f (take i xs) ++ (f (slice_index_or xs i d) ++ flat_map f (drop (suc i) xs))
flat-split f xs i d h =
    ap (flat_map f) (split_at xs i d h) ∙ flat_map-append f (take i xs) (slice_index_or xs i d ∷ drop (suc i) xs)

-- one more place
pub starts-more : {X : Type 0} (f : X → List GraphArc) (xs : List X) (i at : ℕ) (starts starts' : List ℕ) (arcs : List GraphArc) →
    starts ≡ map (starts_of f xs) (range_with_len 0 i) → arcs ≡ flat_map f (take i xs) → starts' ≡ starts ++ at ∷ [] → at ≡ length arcs →
    starts' ≡ map (starts_of f xs) (range_with_len 0 (i + 1))
starts-more f xs i at starts starts' arcs r a e d =
    e ∙ ap (λ l. l ++ at ∷ []) r ∙ ap (λ y. map (starts_of f xs) (range_with_len 0 i) ++ y ∷ []) (d ∙ ap length a)
    ∙ sym (map-range_with_len_more (starts_of f xs) 0 i i (omega arith))

module _ {X : Type 0} (f : X → List GraphArc) (xs : List X) (d : X) (starts : List ℕ) (arcs : List GraphArc)
    (starts_are : starts ≡ map (starts_of f xs) (range_with_len 0 (length xs))) (arcs_are : arcs ≡ flat_map f xs) where
  abbrev last_starts : List ℕ
  last_starts = starts ++ length arcs ∷ []

  starts_size : length starts ≡ length xs
  starts_size = ap length starts_are ∙ length-map-range_with_len (starts_of f xs) 0 (length xs)

  start_is : (k : ℕ) → k ≤ length xs → slice_index last_starts k ≡ starts_of f xs k
  start_is k h = go (cases_lt k (length xs))
    where
      go : (k < length xs) ⊎ (length xs ≤ k) → slice_index last_starts k ≡ starts_of f xs k
      go (inl l) =
          get_or_append_left starts (length arcs ∷ []) 0 k (let e = starts_size in omega arith) ∙ ap (λ l. slice_index l k) starts_are
          ∙ get_or-map-range_with_len (starts_of f xs) 0 (length xs) k k 0 l (omega arith)
      go (inr l) =
          let e : k ≡ length xs = omega arith in
          get_or_push starts (length arcs) 0 k (let s = starts_size in omega arith) ∙ ap length arcs_are
          ∙ ap (λ l. length (flat_map f l)) (sym (take_all k xs l))

  start_more : (k : ℕ) → k < length xs → starts_of f xs (k + 1) ≡ starts_of f xs k + length (f (slice_index_or xs k d))
  start_more k h = ap length (flat-more f xs k d h) ∙ length-append (flat_map f (take k xs)) (f (slice_index_or xs k d))

  arcs_split : (k : ℕ) → k < length xs → arcs ≡ flat_map f (take k xs) ++ (f (slice_index_or xs k d) ++ flat_map f (drop (suc k) xs))
  arcs_split k h = arcs_are ∙ flat-split f xs k d h

  -- each list is a row
  pub row_is : (k : ℕ) → k < length xs → row last_starts arcs k ≡ f (slice_index_or xs k d)
  row_is k h =
      ap (λ l. between (slice_index last_starts k) (slice_index last_starts (k + 1)) l) (arcs_split k h)
      ∙ between_part (flat_map f (take k xs)) (f (slice_index_or xs k d)) (flat_map f (drop (suc k) xs)) _ _
      (sym (start_is k (omega arith))) (sym (start_is (k + 1) (omega arith) ∙ start_more k h))

  inside : (k : ℕ) → k ≤ length xs → slice_index last_starts k ≤ length arcs
  inside k h = go (cases_lt k (length xs))
    where
      go : (k < length xs) ⊎ (length xs ≤ k) → slice_index last_starts k ≤ length arcs
      go (inl l) =
          let a = start_is k h in
          let b = ap length (arcs_split k l) ∙ length-append (flat_map f (take k xs)) (f (slice_index_or xs k d) ++ flat_map f (drop (suc k) xs)) in
          omega arith
      go (inr l) = let e = get_or_push starts (length arcs) 0 k (let s = starts_size in omega arith) in omega arith

  pub rows_are : (n : ℕ) → n ≡ length xs → AreRows n last_starts (length arcs)
  rows_are n e = record {
    one_more = length_push starts (length arcs) ∙ (let s = starts_size in omega arith);
    rise = λ k h.
        let a = start_is k (omega arith) in
        let b = start_is (k + 1) (omega arith) in
        let c = start_more k (omega arith) in
        omega arith;
    inside = λ k h. inside k (omega arith);
  }
