-- Elements in byte order of their names, which differ.
use Rattle.std.proofs.Common.{ℕ, zero, suc, ◌≡◌, ◌<◌, ◌+◌, inl, inr, Bool, true, false, List, [], ◌∷◌, map, get_or, refl, sym, ◌∙◌, ap, subst, arith}
use Rattle.std.specs.List.{AllZip, IsDistinct, AllByRecursion}
use Rattle.std.specs.List.Sorted.{IsSortedBy, IsPermutation}
use Rattle.std.specs.Borrow.{Bor}
use denote.Param.Members.{Mut}
use Rattle.std.specs.Str.{bytes_eq}
use Rattle.std.specs.declared.cmp.Ordering.{Ordering}
use Rattle.std.specs.declared.cmp.Ordering.TheVariants.{Less, Equal, Greater}
use Rattle.std.specs.Cmp.Lexicographic.{slice_cmp}
use Rattle.std.specs.Ordering.{nat_cmp, ordering_reverse, is_lt}
use Rattle.std.specs.Fn.{Called, ComparesAs}
use Rattle.std.specs.Cmp.{IsStrictWeakOrder}
use Rattle.std.proofs.lemmas.Cmp.{nat_list_cmp_total}
use Rattle.std.proofs.lemmas.List.Sorted.{ranks_by, IsPermutation-map}
use Rattle.std.proofs.lemmas.Map.Keys.{IsDistinct-IsPermutation}
use Rattle.std.proofs.lemmas.Fn.{always_returns_same}
use Rattle.std.proofs.lemmas.Map.Lookups.{exact_bytes}
use Rattle.std.proofs.lemmas.Slice.Eq.{bytes_eq-Decides}
use Rattle.fs_graph.specs.declared.graph.GraphArc.{GraphArc}
use Rattle.fs_graph.specs.GraphMap.{GraphMap}
use Rattle.type_hierarchy.specs.Table.{TypeTable}
use Rattle.mrs_model.specs.Meanings.{Argument}
use Rattle.mrs_model.specs.Valid.{Rise}
use Rattle.mrs_places.specs.Paths.{Paths}
use Rattle.mrs_extract.specs.Extraction.{feature_name, IsArgumentAt}
use Rattle.mrs_extract.proofs.Lists.{In, Firm, true_false}

pub distinct_none : IsDistinct bytes_eq []
unfolding IsDistinct
distinct_none = tt

pub distinct_more : (x : List ℕ) (xs : List (List ℕ)) → AllByRecursion (λ y. bytes_eq x y ≡ false) xs → IsDistinct bytes_eq xs → IsDistinct bytes_eq (x ∷ xs)
unfolding IsDistinct
distinct_more x xs a d = (a, d)

distinct_first : (x : List ℕ) (xs : List (List ℕ)) → IsDistinct bytes_eq (x ∷ xs) → AllByRecursion (λ y. bytes_eq x y ≡ false) xs × IsDistinct bytes_eq xs
unfolding IsDistinct
distinct_first x xs d = d

less : (a b : List ℕ) → is_lt (slice_cmp nat_cmp b a) ≡ false → bytes_eq a b ≡ false → slice_cmp nat_cmp a b ≡ Less
less a b n d = by_order (slice_cmp nat_cmp b a) refl
  where
    by_order : (o : Ordering) → slice_cmp nat_cmp b a ≡ o → slice_cmp nat_cmp a b ≡ Less
    by_order Less e = true_false (is_lt (slice_cmp nat_cmp b a)) (ap is_lt e) n
    by_order Equal e = true_false (bytes_eq a b) ((bytes_eq-Decides a b).1 (sym (exact_bytes b a e))) d
    by_order Greater e = nat_list_cmp_total.antisymm a b ∙ ap ordering_reverse e

module _ {A : Type 0} (name : A → List ℕ) where
  abbrev pub By : A → A → Bool
  By x y = is_lt (slice_cmp nat_cmp (name x) (name y))

  pub by_is_order : IsStrictWeakOrder By
  by_is_order = ranks_by nat_list_cmp_total name

  pub rises : (xs : List A) → IsSortedBy By xs → IsDistinct bytes_eq (map name xs) → Rise (map name xs)
  rises [] s d k lt = absurd (omega (arith, lt))
  rises (x ∷ []) s d k lt = absurd (omega (arith, lt))
  rises (x ∷ y ∷ xs) s d zero lt = less (name x) (name y) (s 0 x (omega arith) (omega arith)) (distinct_first (name x) (map name (y ∷ xs)) d).0.0
  rises (x ∷ y ∷ xs) s d (suc k) lt =
      let e : suc k + 1 ≡ suc (k + 1) = omega arith in
      subst (λ (j : ℕ). slice_cmp nat_cmp (get_or (map name (x ∷ y ∷ xs)) (suc k) []) (get_or (map name (x ∷ y ∷ xs)) j []) ≡ Less) (sym e)
      (rises (y ∷ xs) (later s) (distinct_first (name x) (map name (y ∷ xs)) d).1 k (omega (arith, lt)))
    where
      later : IsSortedBy By (x ∷ y ∷ xs) → IsSortedBy By (y ∷ xs)
      later t j o le l =
          let q : suc j + 1 ≡ suc (j + 1) = omega arith in
          subst (λ (i : ℕ). By (get_or (x ∷ y ∷ xs) i o) (get_or (x ∷ y ∷ xs) (suc j) o) ≡ false) q (t (suc j) o (omega arith) (omega (arith, l)))

-- what a sort by names gives, where the names differ
pub sorted_rises : {A B : Type 0} (view : A → B) (name : B → List ℕ) (old new : List A) → IsPermutation old new → {F : Type 0} {g : Mut F (Bor A × (Bor A × Unit {0})) Ordering} {f : F}
    → ((lt : A → A → Bool) → IsStrictWeakOrder lt → ComparesAs g lt f → IsSortedBy lt new)
    → ((a : Bor A × (Bor A × Unit {0})) (r : Ordering) (f' : F) → Called g f a r f' → (r ≡ slice_cmp nat_cmp (name (view a.0.now)) (name (view a.1.0.now))) × (f' ≡ f))
    → IsDistinct bytes_eq (map name (map view old)) → Rise (map name (map view new))
sorted_rises view name old new p {g = g} {f = f} up h d =
    let by : IsSortedBy (By (λ x. name (view x))) new = up (By (λ x. name (view x))) (by_is_order (λ x. name (view x)))
    (always_returns_same g (λ a r. is_lt r ≡ is_lt (slice_cmp nat_cmp (name (view a.0.now)) (name (view a.1.0.now)))) f (λ a r f' k. (ap is_lt (h a r f' k).0, (h a r f' k).1))) in
    let apart : IsDistinct bytes_eq (map name (map view new))
    = IsDistinct-IsPermutation bytes_eq flips (map name (map view old)) (map name (map view new)) (IsPermutation-map name (map view old) (map view new) (IsPermutation-map view old new p)) d in
    subst Rise (sym (maps new)) (rises (λ x. name (view x)) new by (subst (IsDistinct bytes_eq) (maps new) apart))
  where
    maps : (xs : List _) → map name (map view xs) ≡ map (λ x. name (view x)) xs
    maps [] = refl
    maps (x ∷ xs) = ap (λ l. name (view x) ∷ l) (maps xs)

    flips : (x y : List ℕ) → bytes_eq x y ≡ bytes_eq y x
    flips x y = both (bytes_eq x y) (bytes_eq y x) (λ e. (bytes_eq-Decides y x).1 (sym ((bytes_eq-Decides x y).0 e))) (λ e. (bytes_eq-Decides x y).1 (sym ((bytes_eq-Decides y x).0 e)))
      where
        both : (s t : Bool) → (s ≡ true → t ≡ true) → (t ≡ true → s ≡ true) → s ≡ t
        both true t a b = sym (a refl)
        both false true a b = b refl
        both false false a b = refl

-- the names of a node's roles differ, since its arcs do
module _ (g : GraphMap) (types : TypeTable) (p : Paths) (nodes : List ℕ) (size : ℕ)
    (differ : (f h : ℕ) → f < size → h < size → feature_name p f ≡ feature_name p h → f ≡ h) where
  others : (a : GraphArc) (x : Argument) → x.role ≡ feature_name p a.feat.0 → a.feat.0 < size → (arcs : List GraphArc) (args : List Argument) → AllZip (IsArgumentAt g types p nodes) arcs args
      → ((b : GraphArc) → In b arcs → (a.feat.0 < b.feat.0) × (b.feat.0 < size)) → AllByRecursion (λ y. bytes_eq x.role y ≡ false) (map (λ q. q.role) args)
  others a x e lt [] [] z h = tt
  others a x e lt [] (y ∷ ys) z h = absurd z
  others a x e lt (b ∷ bs) [] z h = absurd z
  others a x e lt (b ∷ bs) (y ∷ ys) z h = (by_test (bytes_eq x.role y.role) refl, others a x e lt bs ys z.1 (λ c i. h c (inr i)))
    where
      by_test : (t : Bool) → bytes_eq x.role y.role ≡ t → t ≡ false
      by_test false q = refl
      by_test true q =
          let same : x.role ≡ y.role = (bytes_eq-Decides x.role y.role).0 q in
          let above = h b (inl refl) in
          let l = above.0 in
          let f = differ a.feat.0 b.feat.0 lt above.1 (sym e ∙ same ∙ z.0.role) in
          absurd (omega (arith, l, f))

  pub roles_differ : (arcs : List GraphArc) (args : List Argument) → Firm arcs → ((b : GraphArc) → In b arcs → b.feat.0 < size) → AllZip (IsArgumentAt g types p nodes) arcs args → IsDistinct bytes_eq (map (λ q. q.role) args)
  roles_differ [] [] f h z = distinct_none
  roles_differ [] (y ∷ ys) f h z = absurd z
  roles_differ (b ∷ bs) [] f h z = absurd z
  roles_differ (b ∷ bs) (y ∷ ys) f h z =
      distinct_more y.role (map (λ q. q.role) ys) (others b y z.0.role (h b (inl refl)) bs ys z.1 (λ c i. (f.0 c i, h c (inr i)))) (roles_differ bs ys f.1 (λ c i. h c (inr i)) z.1)
