-- Nodes of a more specific graph.
use Rattle.std.specs.Prelude.{ℕ, ◌≡◌, true, Option, Some, None, List, [], ◌∷◌, ◌++◌}
use Rattle.std.proofs.Common.{refl, sym, ◌∙◌, ap, subst}
use Rattle.type_hierarchy.specs.Table.{TypeTable, is_below}
use Rattle.fs_model.specs.Claims.{Path}
use Rattle.fs_model.specs.Table.{walk}
use Rattle.fs_model.proofs.TableLemmas.{walk-append}
use Rattle.fs_graph.specs.GraphMap.{GraphMap, IsGraph, table_of, type_at, arc_to, arcs_at, arc_named}
use Rattle.mrs_places.specs.Paths.{Feature}
use Rattle.mrs_places.specs.Looking.{step}
use Rattle.relation_fit.proofs.Chains.{walk_arc}

-- each path from a node of the one graph is one from a node of the other, to a type at or below
abbrev pub Over : TypeTable → GraphMap → ℕ → GraphMap → ℕ → Type 0
Over types v n u m = (q : Path) (k : ℕ) → walk (table_of v) n q ≡ Some k → (j : ℕ) × (walk (table_of u) m q ≡ Some j) × (is_below types (type_at u j) (type_at v k) ≡ true)

one_arc : (u : GraphMap) (o : Option ℕ) (j : ℕ) → elim o as (λ _. Option ℕ) [ None ↦ None | Some m ↦ Some m ] ≡ Some j → o ≡ Some j
one_arc u None j e = e
one_arc u (Some m) j e = e

module _ (types : TypeTable) (v u : GraphMap) (iv : IsGraph v) (iu : IsGraph u) where
  -- so it is behind each path
  pub over_path : (n m : ℕ) → Over types v n u m → (p : Path) (k : ℕ) → walk (table_of v) n p ≡ Some k → (j : ℕ) × (walk (table_of u) m p ≡ Some j) × Over types v k u j
  over_path n m o p k e =
      let z = o p k e in (
        z.0,
        z.1,
        λ q i f. (let y = o (p ++ q) i (walk-append (table_of v) iv.numbered.table n k p q e ∙ f) in
            (y.0, sym (walk-append (table_of u) iu.numbered.table m z.0 p q z.1) ∙ y.1, y.2)),
      )

  pub over_arc : (n m f k : ℕ) → Over types v n u m → arc_to (arcs_at v n) f ≡ Some k → (j : ℕ) × (arc_to (arcs_at u m) f ≡ Some j) × Over types v k u j
  over_arc n m f k o e =
      let z = over_path n m o (f ∷ []) k (walk_arc v n f k [] e) in
      (z.0, one_arc u (arc_to (arcs_at u m) f) z.0 z.1, z.2)

  pub over_step : (n m k : ℕ) (f : Feature) → Over types v n u m → step v n f ≡ Some k → (j : ℕ) × (step u m f ≡ Some j) × Over types v k u j
  over_step n m k f o e = by_number f.number refl
    where
      by_number : (a : Option ℕ) → f.number ≡ a → (j : ℕ) × (step u m f ≡ Some j) × Over types v k u j
      by_number None q = absurd (let z : None ≡ Some k = sym (ap (arc_named v n) q) ∙ e in cc)
      by_number (Some g) q =
          let z = over_arc n m g k o (sym (ap (arc_named v n) q) ∙ e) in
          (z.0, ap (arc_named u m) q ∙ z.1, z.2)

  -- the types of the nodes themselves
  pub over_type : (n m : ℕ) → Over types v n u m → is_below types (type_at u m) (type_at v n) ≡ true
  over_type n m o =
      let z = o [] n refl in
      let f : Some m ≡ Some z.0 = z.1 in
      let e : m ≡ z.0 = cc in
      subst (λ x. is_below types (type_at u x) (type_at v n) ≡ true) (sym e) z.2
