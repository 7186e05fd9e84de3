-- Lists of types.
use Rattle.std.proofs.Common.{ℕ, suc, ◌≡◌, ◌<◌, ◌≤◌, ◌+◌, ◌⊎◌, inl, inr, true, Some, None, List, [], ◌∷◌, length, slice_index_or, refl, sym, ◌∙◌, subst, arith}
use Rattle.std.proofs.lemmas.Bool.{cases_lt, eqb-true, or_cases}
use Rattle.std.specs.Prelude.{◌==◌}
use Rattle.type_hierarchy.proofs.LawLemmas.{below_sets, below_string, set_below_in}
use Rattle.type_hierarchy.specs.Table.{TypeTable, count_of, completed_count, is_below, is_set_below, meet_of}
use Rattle.type_hierarchy.specs.Laws.{HasTypeLaws}
use Rattle.fs_model.specs.Claims.{Has, here, there}
use Rattle.fs_closing.proofs.HasLemmas.{Has-at}
use Rattle.forced_types.specs.Inner.Sound.{Covers}
use Rattle.forced_types.specs.Inner.Closed.{AreTypesClosed}

every : {X : Type 0} (P : X → Type 0) (d x : X) (list : List X) → ((k : ℕ) → k < length list → P (slice_index_or list k d)) → Has x list → P x
every P d x _ h (here {ys = ys}) = h 0 (omega arith)
every P d x _ h (there {ys = ys} m) = every P d x ys (λ k i. h (suc k) (omega arith)) m

-- a fact of the element at each place is one of each element
pub at_every : {X : Type 0} (list : List X) (P : X → Type 0) (d : X) → ((k : ℕ) → k < length list → P (slice_index_or list k d)) → (x : X) → Has x list → P x
at_every list P d h x m = every P d x list h m

pub one_more : (P : ℕ → Type 0) (i : ℕ) → ((k : ℕ) → k < i → P k) → P i → (k : ℕ) → k < i + 1 → P k
one_more P i below here' k h = go (cases_lt k i)
  where
    go : (k < i) ⊎ (i ≤ k) → P k
    go (inl a) = below k a
    go (inr a) = subst P (let e : i ≡ k = omega arith in e) here'

pub not_less : (v u : ℕ) → (v < u → ⊥) → u ≤ v
not_less v u never = go (cases_lt v u)
  where
    go : (v < u) ⊎ (u ≤ v) → u ≤ v
    go (inl a) = absurd (never a)
    go (inr a) = a

-- what is above a type of the table is one
pub below_in : (types : TypeTable) → completed_count types ≤ count_of types → (t u : ℕ) → t < count_of types → is_below types t u ≡ true → u < count_of types
below_in types more t u h e = go (cases_lt t (length types.sets))
  where
    go : (t < length types.sets) ⊎ (length types.sets ≤ t) → u < count_of types
    go (inl k) = let i = set_below_in types t u (sym (below_sets types t u k) ∙ e) in omega arith
    go (inr k) = which (or_cases (t == u) _ (sym (below_string types t u k) ∙ e))
      where
        which : ((t == u) ≡ true) ⊎ (is_set_below types types.string_type u ≡ true) → u < count_of types
        which (inl m) = let i = eqb-true t u m in omega arith
        which (inr m) = let i = set_below_in types types.string_type u m in omega arith

-- the one element of a list
the_one : (list : List ℕ) → length list ≡ 1 → (x : ℕ) → Has x list → x ≡ slice_index_or list 0 0
the_one [] e x m = absurd (omega arith)
the_one (y ∷ []) e _ here = refl
the_one (y ∷ []) e x (there m) = elim m [ ]
the_one (y ∷ z ∷ list) e x m = absurd (omega arith)

module _ (types : TypeTable) (laws : HasTypeLaws types) (list : List ℕ) where
  -- types of which one covers both have a common one
  joined : (x t u : ℕ) → is_below types x t ≡ true → is_below types x u ≡ true → meet_of types t u ≡ None → ⊥
  joined x t u a b e = let m = laws.meet_exists t u x a b in clash m.0 m.1
    where
      clash : (m : ℕ) → meet_of types t u ≡ Some m → ⊥
      clash m is = absurd cc

  pub one_apart : length list ≡ 1 → (t : ℕ) → Has t list → (u : ℕ) → Has u list → meet_of types t u ≡ None → ⊥
  one_apart e t h u k =
      let x = slice_index_or list 0 0 in
      let a : t ≡ x = the_one list e t h in
      let b : u ≡ x = the_one list e u k in
      joined x t u (subst (λ y. is_below types x y ≡ true) (sym a) (laws.reflexive x)) (subst (λ y. is_below types x y ≡ true) (sym b) (laws.reflexive x))

  pub closed_one : length list ≡ 1 → AreTypesClosed types list
  closed_one e = record {
    top = record { lower = x; has = Has-at list 0 0 (omega arith); under = laws.below_top x };
    meets = λ t u m a b is. record { lower = x; has = Has-at list 0 0 (omega arith); under = laws.meet_greatest t u m x is (is_under a) (is_under b) };
    apart = λ t u a b is. absurd (joined x t u (is_under a) (is_under b) is);
  }
    where
      x : ℕ
      x = slice_index_or list 0 0

      is_under : {t : ℕ} → Covers types list t → is_below types x t ≡ true
      is_under {t} a = subst (λ y. is_below types y t ≡ true) (the_one list e a.lower a.has) a.under

  pub closed_many : 0 < length list → ((t u : ℕ) → Has t list → is_below types t u ≡ true → Has u list) →
      ((t : ℕ) → Has t list → (u : ℕ) → Has u list → (m : ℕ) → meet_of types t u ≡ Some m → Has m list) → AreTypesClosed types list
  closed_many some raised meets = record {
    top = record { lower = slice_index_or list 0 0; has = Has-at list 0 0 some; under = laws.below_top (slice_index_or list 0 0) };
    meets = λ t u m a b is.
        record { lower = m; has = meets t (raised a.lower t a.has a.under) u (raised b.lower u b.has b.under) m is; under = laws.reflexive m };
    apart = λ t u a b is. (raised a.lower t a.has a.under, raised b.lower u b.has b.under);
  }
