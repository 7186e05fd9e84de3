-- The highest of the writers of a feature.
use Rattle.std.proofs.Common.{ℕ, ◌≡◌, ◌<◌, ◌≤◌, ◌+◌, ◌⊎◌, inl, inr, true, false, List, [], length, take, get_or, refl, sym, ◌∙◌, subst, arith}
use Rattle.std.specs.List.{All}
use Rattle.std.proofs.lemmas.List.{get_or_default}
use Rattle.fs_model.specs.Claims.{Has}
use Rattle.type_hierarchy.specs.declared.types.Ty.{Ty}
use Rattle.type_hierarchy.specs.Laws.{HasTypeLaws}
use Rattle.type_hierarchy.specs.Table.{TypeTable, is_below}
use Rattle.constraint_expand.specs.Introducers.{numbers_of, IsMostGeneral, AreFirstTwo}
use Rattle.type_facts.proofs.ListLemmas.{true_not_false, each_next, each_all, Has-read, Has-map, Has-of_map, Has-place, Has-at}

-- the highest writer on the way up through those that were seen
pub record IsHighestOf (types : TypeTable) (writers seen : List ℕ) (start h : ℕ) : Type 0 where
  pub writes : Has h writers
  pub above : is_below types start h ≡ true
  pub highest : (u : ℕ) → Has u seen → is_below types h u ≡ true → u ≡ h

-- a writer that is above the highest one takes its place
pub highest_taken : (types : TypeTable) (writers : List Ty) (i : ℕ) (start h : ℕ) (w : Ty) → HasTypeLaws types → i < length writers → w ≡ get_or writers i w →
    is_below types h w.0 ≡ true → IsHighestOf types (numbers_of writers) (numbers_of (take i writers)) start h →
    IsHighestOf types (numbers_of writers) (numbers_of (take (i + 1) writers)) start w.0
highest_taken types writers i start h w laws within is below inv =
    record {
      writes = Has-map (λ t. t.0) w writers (Has-read writers i w within is);
      above = laws.transitive start h w.0 inv.above below;
      highest = each_next (λ u. is_below types w.0 u ≡ true → u ≡ w.0) (λ t. t.0) writers i w within is
          (λ u seen up. let same : u ≡ h = inv.highest u seen (laws.transitive h w.0 u below up) in
          same ∙ laws.antisymmetric h w.0 below (subst (λ v. is_below types w.0 v ≡ true) same up))
          (λ _. refl);
    }

pub highest_kept : (types : TypeTable) (writers : List Ty) (i : ℕ) (start h : ℕ) (w : Ty) → i < length writers → w ≡ get_or writers i w →
    is_below types h w.0 ≡ false → IsHighestOf types (numbers_of writers) (numbers_of (take i writers)) start h →
    IsHighestOf types (numbers_of writers) (numbers_of (take (i + 1) writers)) start h
highest_kept types writers i start h w within is below inv =
    record {
      writes = inv.writes;
      above = inv.above;
      highest = each_next (λ u. is_below types h u ≡ true → u ≡ h) (λ t. t.0) writers i w within is inv.highest
          (λ up. true_not_false (is_below types h w.0) up below);
    }

pub highest_all : (types : TypeTable) (writers : List Ty) (i : ℕ) (start h : ℕ) → length writers ≤ i →
    IsHighestOf types (numbers_of writers) (numbers_of (take i writers)) start h → IsMostGeneral types (numbers_of writers) h
highest_all types writers i start h past inv =
    record {
      writes = inv.writes;
      highest = each_all (λ u. is_below types h u ≡ true → u ≡ h) (λ t. t.0) writers i past inv.highest;
    }

-- the first two of the most general writers that were seen, and two that are known
pub record AreTwo (types : TypeTable) (writers seen : List ℕ) (a b : ℕ) : Type 0 where
  pub first : IsMostGeneral types writers a
  pub second : IsMostGeneral types writers b
  pub in_order : a < b
  pub others : (t : ℕ) → Has t seen → IsMostGeneral types writers t → (t ≡ a) ⊎ (b ≤ t)

pub two_passed : (types : TypeTable) (writers : List Ty) (i a b : ℕ) (w : Ty) → i < length writers → w ≡ get_or writers i w →
    (IsMostGeneral types (numbers_of writers) w.0 → (w.0 ≡ a) ⊎ (b ≤ w.0)) → AreTwo types (numbers_of writers) (numbers_of (take i writers)) a b →
    AreTwo types (numbers_of writers) (numbers_of (take (i + 1) writers)) a b
two_passed types writers i a b w within is passes inv =
    record {
      first = inv.first;
      second = inv.second;
      in_order = inv.in_order;
      others = each_next (λ t. IsMostGeneral types (numbers_of writers) t → (t ≡ a) ⊎ (b ≤ t)) (λ t. t.0) writers i w within is inv.others passes;
    }

-- one that comes before the first, and one between the two
pub two_before : (types : TypeTable) (writers : List Ty) (i a b : ℕ) (w : Ty) → i < length writers → w ≡ get_or writers i w →
    IsMostGeneral types (numbers_of writers) w.0 → w.0 < a → AreTwo types (numbers_of writers) (numbers_of (take i writers)) a b →
    AreTwo types (numbers_of writers) (numbers_of (take (i + 1) writers)) w.0 a
two_before types writers i a b w within is general lt inv =
    record {
      first = general;
      second = inv.first;
      in_order = lt;
      others = each_next (λ t. IsMostGeneral types (numbers_of writers) t → (t ≡ w.0) ⊎ (a ≤ t)) (λ t. t.0) writers i w within is
          (λ t seen g. inr (later t (inv.others t seen g)))
          (λ _. inl refl);
    }
  where
    later : (t : ℕ) → (t ≡ a) ⊎ (b ≤ t) → a ≤ t
    later t (inl e) = omega (arith, e)
    later t (inr e) = omega (arith, e, inv.in_order)

pub two_between : (types : TypeTable) (writers : List Ty) (i a b : ℕ) (w : Ty) → i < length writers → w ≡ get_or writers i w →
    IsMostGeneral types (numbers_of writers) w.0 → a < w.0 → w.0 < b → AreTwo types (numbers_of writers) (numbers_of (take i writers)) a b →
    AreTwo types (numbers_of writers) (numbers_of (take (i + 1) writers)) a w.0
two_between types writers i a b w within is general low high inv =
    record {
      first = inv.first;
      second = general;
      in_order = low;
      others = each_next (λ t. IsMostGeneral types (numbers_of writers) t → (t ≡ a) ⊎ (w.0 ≤ t)) (λ t. t.0) writers i w within is
          (λ t seen g. later t (inv.others t seen g))
          (λ _. inr (omega arith));
    }
  where
    later : (t : ℕ) → (t ≡ a) ⊎ (b ≤ t) → (t ≡ a) ⊎ (w.0 ≤ t)
    later t (inl e) = inl e
    later t (inr e) = inr (omega (arith, e, high))

pub two_all : (types : TypeTable) (writers : List Ty) (i a b : ℕ) → length writers ≤ i → AreTwo types (numbers_of writers) (numbers_of (take i writers)) a b →
    AreFirstTwo types (numbers_of writers) a b
two_all types writers i a b past inv =
    record {
      first = inv.first;
      second = inv.second;
      in_order = inv.in_order;
      others = λ t g. each_all (λ t. IsMostGeneral types (numbers_of writers) t → (t ≡ a) ⊎ (b ≤ t)) (λ t. t.0) writers i past inv.others t g.writes g;
    }

-- writers are types
pub writer_within : (n : ℕ) (writers : List Ty) → All (λ t. t.0 < n) writers → (t : ℕ) → Has t (numbers_of writers) → t < n
writer_within n writers all t h =
    let r = Has-of_map (λ t. t.0) t writers h in
    let p = Has-place r.0 r.0 writers r.1 in
    subst (λ m. m < n) (sym r.2) (subst (λ x. x.0 < n) p.2 (all p.0 r.0 p.1))

-- the writer that a loop reads
pub read_is : (writers : List Ty) (i : ℕ) (d : Ty) → i < length writers → get_or writers i d ≡ get_or writers i (get_or writers i d)
read_is writers i d h = get_or_default writers i d (get_or writers i d) h

pub writer_at : (writers : List Ty) (i : ℕ) (d : Ty) → i < length writers → Has (get_or writers i d).0 (numbers_of writers)
writer_at writers i d h = Has-map (λ t. t.0) (get_or writers i d) writers (Has-at writers i d h)

pub highest_none : (types : TypeTable) (writers : List ℕ) (start : ℕ) → HasTypeLaws types → Has start writers → IsHighestOf types writers [] start start
highest_none types writers start laws h = record { writes = h; above = laws.reflexive start; highest = λ u k. elim k [ ] }

pub two_begin : (types : TypeTable) (writers : List ℕ) (x y a b : ℕ) → IsMostGeneral types writers x → IsMostGeneral types writers y → a < b →
    ((a ≡ x) × (b ≡ y)) ⊎ ((a ≡ y) × (b ≡ x)) → AreTwo types writers [] a b
two_begin types writers x y a b gx gy lt (inl (ex, ey)) =
    record {
      first = subst (IsMostGeneral types writers) (sym ex) gx;
      second = subst (IsMostGeneral types writers) (sym ey) gy;
      in_order = lt;
      others = λ t k. elim k [ ];
    }
two_begin types writers x y a b gx gy lt (inr (ey, ex)) =
    record {
      first = subst (IsMostGeneral types writers) (sym ey) gy;
      second = subst (IsMostGeneral types writers) (sym ex) gx;
      in_order = lt;
      others = λ t k. elim k [ ];
    }

pub two_taken : (types : TypeTable) (writers : List Ty) (i a b a' b' : ℕ) (w : Ty) → i < length writers → w ≡ get_or writers i w →
    IsMostGeneral types (numbers_of writers) w.0 → w.0 < b → AreTwo types (numbers_of writers) (numbers_of (take i writers)) a b →
    ((w.0 < a) × (a' ≡ w.0) × (b' ≡ a)) ⊎ ((a < w.0) × (a' ≡ a) × (b' ≡ w.0)) →
    AreTwo types (numbers_of writers) (numbers_of (take (i + 1) writers)) a' b'
two_taken types writers i a b a' b' w within is general high inv (inl (low, ea, eb)) =
    subst (λ x. AreTwo types (numbers_of writers) (numbers_of (take (i + 1) writers)) x b') (sym ea)
    (subst (λ y. AreTwo types (numbers_of writers) (numbers_of (take (i + 1) writers)) w.0 y) (sym eb) (two_before types writers i a b w within is general low inv))
two_taken types writers i a b a' b' w within is general high inv (inr (low, ea, eb)) =
    subst (λ x. AreTwo types (numbers_of writers) (numbers_of (take (i + 1) writers)) x b') (sym ea)
    (subst (λ y. AreTwo types (numbers_of writers) (numbers_of (take (i + 1) writers)) a y) (sym eb) (two_between types writers i a b w within is general low high inv))

pub two_same : (types : TypeTable) (writers seen : List ℕ) (a b a' b' : ℕ) → a' ≡ a → b' ≡ b → AreTwo types writers seen a b → AreTwo types writers seen a' b'
two_same types writers seen a b a' b' ea eb h =
    subst (λ x. AreTwo types writers seen x b') (sym ea) (subst (λ y. AreTwo types writers seen a y) (sym eb) h)

-- writers that are noted are types
pub all_writers : (n : ℕ) (writers list : List Ty) → list ≡ writers → ((t : ℕ) → Has t (numbers_of writers) → t < n) → All (λ t. t.0 < n) list
all_writers n writers list e within k d lt =
    within (get_or list k d).0 (subst (λ l. Has (get_or list k d).0 (numbers_of l)) e (Has-map (λ t. t.0) (get_or list k d) list (Has-at list k d lt)))
