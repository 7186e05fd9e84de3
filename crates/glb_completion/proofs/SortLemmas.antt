-- A family in another order.
use Rattle.std.proofs.Common.{ℕ, ◌≡◌, ◌≢◌, ◌≤◌, ◌<◌, ◌+◌, ◌-◌, ◌⊎◌, inl, inr, List, [], ◌∷◌, ◌++◌, length, take, drop, slice_index_or, slice_set, Vec, refl, sym, ◌∙◌, ap, subst, arith}
use Rattle.std.specs.Global.{Global}
use Rattle.std.specs.List.{swap}
use Rattle.std.specs.List.Sorted.{IsPermutation, IsSorted}
use Rattle.std.specs.Ordering.{nat_cmp, is_lt}
use Rattle.std.specs.Cmp.Lexicographic.{slice_cmp}
use Rattle.std.proofs.lemmas.Bool.{cases_lt}
use Rattle.std.proofs.lemmas.List.{length-map, length-append, length-set, length-drop, get_or-set_same, get_or-set_other, get_or-map, same_lists, get_or-take, get_or_default, take-append-drop, length-take-le, map-append, take-map, take_rest}
use Rattle.std.proofs.lemmas.List.Sorted.{IsPermutation-append_right, IsPermutation-map, IsPermutation-keeps, All-permutation, Contains-permutation, length_permutation}
use Rattle.type_hierarchy.specs.Inner.Reach.{lists}
use Rattle.type_hierarchy.specs.Table.{TypeTable, IsIntersection, IsDistinct, IsFamily}
use Rattle.type_hierarchy.specs.Laws.{IsHierarchy}
use Rattle.type_hierarchy.specs.Inner.Tables.{sets_of}
use Rattle.type_hierarchy.specs.Bits.{bits_below}
use Rattle.glb_completion.specs.Inner.Growing.{IsGrowing}

abbrev IsOneToOne : List (List ℕ) → Type 0
IsOneToOne xs = (a b : ℕ) → a < length xs → b < length xs → slice_index_or xs a [] ≡ slice_index_or xs b [] → a ≡ b

same_or_other : (a b : ℕ) → (a ≡ b) ⊎ (a ≢ b)
same_or_other a b = go (cases_lt a b) (cases_lt b a)
  where
    go : (a < b) ⊎ (b ≤ a) → (b < a) ⊎ (a ≤ b) → (a ≡ b) ⊎ (a ≢ b)
    go (inl x) _ = inr (λ e. omega arith)
    go (inr x) (inl y) = inr (λ e. omega arith)
    go (inr x) (inr y) = inl (omega arith)

one_to_one : (xs : List (List ℕ)) → IsDistinct xs → IsOneToOne xs
one_to_one xs d a b h k e = go (cases_lt a b) (cases_lt b a)
  where
    go : (a < b) ⊎ (b ≤ a) → (b < a) ⊎ (a ≤ b) → a ≡ b
    go (inl x) _ = absurd (d a b x k e)
    go (inr x) (inl y) = absurd (d b a y h (sym e))
    go (inr x) (inr y) = omega arith

distinct_of : (xs : List (List ℕ)) → IsOneToOne xs → IsDistinct xs
distinct_of xs f i j h k e = let same = f i j (omega arith) k e in omega arith

-- where the element at k comes from
record Comes (l : List (List ℕ)) (i j k : ℕ) : Type 0 where
  from : ℕ
  within : from < length l
  is : slice_index_or (swap l i j) k [] ≡ slice_index_or l from []
  how : ((k ≡ j) × (from ≡ i)) ⊎ (((k ≢ j) × (k ≡ i) × (from ≡ j)) ⊎ ((k ≢ j) × (k ≢ i) × (from ≡ k)))

size_swapped : (l : List (List ℕ)) (i j : ℕ) → length (swap l i j) ≡ length l
size_swapped [] i j = refl
size_swapped (d ∷ ys) i j = length-set (slice_set (d ∷ ys) i (slice_index_or (d ∷ ys) j d)) j (slice_index_or (d ∷ ys) i d) ∙ length-set (d ∷ ys) i (slice_index_or (d ∷ ys) j d)

comes : (l : List (List ℕ)) (i j k : ℕ) → i < length l → j < length l → k < length l → Comes l i j k
comes [] i j k h h' h'' = absurd (omega arith)
comes (d ∷ ys) i j k h h' h'' = go (same_or_other k j) (same_or_other k i)
  where
    first : List (List ℕ)
    first = slice_set (d ∷ ys) i (slice_index_or (d ∷ ys) j d)

    go : (k ≡ j) ⊎ (k ≢ j) → (k ≡ i) ⊎ (k ≢ i) → Comes (d ∷ ys) i j k
    go (inl e) _ = record {
      from = i;
      within = h;
      is = ap (λ n. slice_index_or (slice_set (slice_set (d ∷ ys) i (slice_index_or (d ∷ ys) j d)) j (slice_index_or (d ∷ ys) i d)) n []) e
          ∙ get_or-set_same (slice_set (d ∷ ys) i (slice_index_or (d ∷ ys) j d)) j (slice_index_or (d ∷ ys) i d) [] (omega (arith, h', length-set (d ∷ ys) i (slice_index_or (d ∷ ys) j d)))
          ∙ get_or_default (d ∷ ys) i d [] h;
      how = inl (e, refl);
    }
    go (inr e) (inl f) = record {
      from = j;
      within = h';
      is = get_or-set_other (slice_set (d ∷ ys) i (slice_index_or (d ∷ ys) j d)) j k (slice_index_or (d ∷ ys) i d) [] e
          ∙ ap (λ n. slice_index_or (slice_set (d ∷ ys) i (slice_index_or (d ∷ ys) j d)) n []) f ∙ get_or-set_same (d ∷ ys) i (slice_index_or (d ∷ ys) j d) [] h ∙ get_or_default (d ∷ ys) j d [] h';
      how = inr (inl (e, f, refl));
    }
    go (inr e) (inr f) = record {
      from = k;
      within = h'';
      is = get_or-set_other (slice_set (d ∷ ys) i (slice_index_or (d ∷ ys) j d)) j k (slice_index_or (d ∷ ys) i d) [] e ∙ get_or-set_other (d ∷ ys) i k (slice_index_or (d ∷ ys) j d) [] f;
      how = inr (inr (e, f, refl));
    }

swapped_one_to_one : (l : List (List ℕ)) (i j : ℕ) → i < length l → j < length l → IsOneToOne l → IsOneToOne (swap l i j)
swapped_one_to_one l i j h h' f a b in_a in_b e =
    together (x.how) (y.how) (f x.from y.from x.within y.within (sym x.is ∙ e ∙ y.is))
  where
    x : Comes l i j a
    x = comes l i j a h h' (omega (arith, in_a, size_swapped l i j))

    y : Comes l i j b
    y = comes l i j b h h' (omega (arith, in_b, size_swapped l i j))

    together : {s t : ℕ} → ((a ≡ j) × (s ≡ i)) ⊎ (((a ≢ j) × (a ≡ i) × (s ≡ j)) ⊎ ((a ≢ j) × (a ≢ i) × (s ≡ a))) →
        ((b ≡ j) × (t ≡ i)) ⊎ (((b ≢ j) × (b ≡ i) × (t ≡ j)) ⊎ ((b ≢ j) × (b ≢ i) × (t ≡ b))) → s ≡ t → a ≡ b
    together (inl p) (inl q) r = p.0 ∙ sym q.0
    together (inl p) (inr (inl q)) r = absurd (q.0 (omega (arith, p.1, q.1, q.2, r)))
    together (inl p) (inr (inr q)) r = absurd (q.1 (sym q.2 ∙ sym r ∙ p.1))
    together (inr (inl p)) (inl q) r = absurd (p.0 (omega (arith, p.1, p.2, q.1, r)))
    together (inr (inl p)) (inr (inl q)) r = p.1 ∙ sym q.1
    together (inr (inl p)) (inr (inr q)) r = absurd (q.0 (sym q.2 ∙ sym r ∙ p.2))
    together (inr (inr p)) (inl q) r = absurd (p.1 (sym p.2 ∙ r ∙ q.1))
    together (inr (inr p)) (inr (inl q)) r = absurd (p.0 (sym p.2 ∙ r ∙ q.2))
    together (inr (inr p)) (inr (inr q)) r = sym p.2 ∙ r ∙ q.2

pub family_reordered : (h : TypeTable) (first xs ys : List (List ℕ)) → IsFamily h (first ++ xs) → IsPermutation xs ys → IsFamily h (first ++ ys)
family_reordered h first xs ys f p = record {
  intersections = All-permutation (IsIntersection h) (first ++ xs) (first ++ ys) both f.intersections;
  whole = λ m i. Contains-permutation (first ++ xs) (first ++ ys) m both (f.whole m i);
  once = distinct_of (first ++ ys) (IsPermutation-keeps (first ++ xs) IsOneToOne (one_to_one (first ++ xs) f.once) (λ l i j a b o. swapped_one_to_one l i j a b o) (first ++ ys) both);
}
  where
    both : IsPermutation (first ++ xs) (first ++ ys)
    both = IsPermutation-append_right first xs ys p

-- the family is the written sets, and then the others
pub family_parts : (h : TypeTable) (laws : IsHierarchy h) (keys above : List (Vec ℕ Global)) → IsGrowing h keys above → sets_of h.written keys ≡ h.sets ++ sets_of h.written (drop h.written keys)
family_parts h laws keys above g =
    ap (sets_of h.written) (sym (take-append-drop h.written keys)) ∙ map-append (λ r. bits_below h.written r.items) (take h.written keys) (drop h.written keys)
    ∙ ap (λ l. l ++ sets_of h.written (drop h.written keys)) first
  where
    size : length (take h.written keys) ≡ h.written
    size = length-take-le h.written keys g.enough

    first : sets_of h.written (take h.written keys) ≡ h.sets
    first = same_lists _ _ (length-map (take h.written keys) (λ r. bits_below h.written r.items) ∙ size ∙ laws.all_written) (λ k d l. at k d (omega (arith, l, length-map (take h.written keys) (λ r. bits_below h.written r.items), size)))
      where
        at : (k : ℕ) (d : List ℕ) → k < h.written → slice_index_or (sets_of h.written (take h.written keys)) k d ≡ slice_index_or h.sets k d
        at k d l =
            get_or_default (sets_of h.written (take h.written keys)) k d [] (omega (arith, l, length-map (take h.written keys) (λ r. bits_below h.written r.items), size))
            ∙ ap (λ q. slice_index_or q k []) (sym (take-map (λ r. bits_below h.written r.items) h.written keys)) ∙ get_or-take h.written (sets_of h.written keys) k [] l
            ∙ g.written k l ∙ get_or_default h.sets k [] d (omega (arith, l, laws.all_written))

pub lists_sorted : (vs : List (Vec ℕ Global)) → IsSorted (λ a b. slice_cmp nat_cmp a.items b.items) vs → IsSorted (slice_cmp nat_cmp) (lists vs)
lists_sorted [] s k d low h = absurd (omega arith)
lists_sorted (v ∷ vs) s k d low h =
    let size = length-map (v ∷ vs) (λ x. x.items) in
    ap (λ p. is_lt (slice_cmp nat_cmp p (slice_index_or (lists (v ∷ vs)) k d))) (get_or-map (λ x. x.items) (v ∷ vs) (k + 1) v d (omega (arith, h, size)))
    ∙ ap (λ p. is_lt (slice_cmp nat_cmp (slice_index_or (v ∷ vs) (k + 1) v).items p)) (get_or-map (λ x. x.items) (v ∷ vs) k v d (omega (arith, h, size)))
    ∙ s k v low (omega (arith, h, size))

module _ (h : TypeTable) (laws : IsHierarchy h) (keys above added sorted : List (Vec ℕ Global)) (n : ℕ) (now : List (Vec ℕ Global)) where
  tail_is : now ≡ keys → lists added ≡ sets_of n (take (length now - n) (drop n now)) → lists added ≡ sets_of n (drop n keys)
  tail_is k is = is ∙ ap (sets_of n) (take_rest now n) ∙ ap (λ q. sets_of n (drop n q)) k

  pub reordered : IsGrowing h keys above → IsFamily h (sets_of h.written keys) → n ≡ h.written → now ≡ keys → lists added ≡ sets_of n (take (length now - n) (drop n now)) → IsPermutation added sorted →
      IsFamily h (h.sets ++ lists sorted)
  reordered g f e k is p =
      family_reordered h h.sets (lists added) (lists sorted)
      (subst (IsFamily h) (family_parts h laws keys above g ∙ ap (λ l. h.sets ++ l) (sym (tail_is k is ∙ ap (λ m. sets_of m (drop m keys)) e))) f)
      (IsPermutation-map (λ v. v.items) added sorted p)

  pub reordered_few : IsGrowing h keys above → n ≡ h.written → now ≡ keys → lists added ≡ sets_of n (take (length now - n) (drop n now)) → IsPermutation added sorted → length (h.sets ++ lists sorted) ≤ 65535
  reordered_few g e k is p =
      omega (
        arith,
        g.few,
        length-append h.sets (lists sorted),
        length-map sorted (λ v. v.items),
        length_permutation added sorted p,
        length-map added (λ v. v.items),
        ap length (tail_is k is),
        length-map (drop n keys) (λ r. bits_below n r.items),
        length-drop n keys,
        g.enough,
        laws.all_written,
      )
