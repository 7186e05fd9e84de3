-- The graph of the rows that a cut leaves.
use Rattle.std.specs.Prelude.{ℕ, ◌≡◌, ◌≤◌, ◌<◌, ◌==◌, ◌⊎◌, ◌+◌, Bool, true, false, if◌then◌else◌, Option, Some, None, List, [], ◌∷◌, ◌++◌, length, map, slice_index_or}
use Rattle.std.proofs.Common.{inl, inr, refl, sym, ◌∙◌, ap, subst, arith}
use Rattle.std.proofs.lemmas.Bool.{cases_lt, ne_eqb}
use Rattle.std.proofs.lemmas.List.{length-map, get_or_past, get_or_default}
use Rattle.std.proofs.lemmas.List.FromFn.{length-map-range_with_len}
use Rattle.type_hierarchy.specs.Table.{count_of}
use Rattle.type_hierarchy.specs.declared.types.Ty.{Ty}
use Rattle.fs_model.specs.Claims.{Path, Has}
use Rattle.fs_model.specs.Sources.{Reader, IsSameStructure}
use Rattle.fs_model.specs.Table.{walk}
use Rattle.fs_model.proofs.TableLemmas.{walk-append, walk-step, walk_ends}
use Rattle.fs_graph.specs.declared.graph.GraphArc.{GraphArc}
use Rattle.fs_graph.specs.declared.graph.Node.{Node}
use Rattle.fs_graph.specs.declared.clash.Clash.TheVariants.{Cycle}
use Rattle.fs_graph.specs.GraphMap.{GraphMap, IsGraph, table_of, type_at, arcs_at, arc_to, reader_of}
use Rattle.fs_graph.specs.Inside.{row, graph_map}
use Rattle.fs_graph.specs.Orders.{IsOrdering, IsClash}
use Rattle.fs_graph.proofs.RowLemmas.{row_at}
use Rattle.fs_closing.specs.Rules.{Grammar}
use Rattle.fs_unify.specs.Entering.{IsGraphIn}
use Rattle.fs_unify.proofs.EnterLemmas.{rises_found, arc_to_has}
use Rattle.fs_drawing.proofs.FilterLemmas.{either_none, arc_to-filter}
use Rattle.tree_model.specs.Cuts.{Cut, is_kept}
use Rattle.tree_model.specs.Views.{IsKeptOf, without}
use Rattle.fs_trim.specs.Cutting.{IsShort}
use Rattle.fs_trim.specs.Inner.Rows.{leaves, IsCutPlan}
use Rattle.fs_trim.proofs.KeepLemmas.{IsBared, bared_kept}

-- one structure after another
same_on : {a b c : Reader} → IsSameStructure a b → IsSameStructure b c → IsSameStructure a c
same_on x y = record {
  there = λ p n h. let m = x.there p n h in y.there p m.0 m.1;
  there_back = λ p n h. let m = y.there_back p n h in x.there_back p m.0 m.1;
  equal = λ p q n k h i j. let m = x.there p n h in y.equal p q m.0 k m.1 (x.equal p q n m.0 h i m.1) j;
  equal_back = λ p q n k h i j. let m = y.there_back p n h in x.equal_back p q m.0 k m.1 (y.equal_back p q n m.0 h i m.1) j;
  types = λ p n k h j. let m = x.there p n h in x.types p n m.0 h m.1 ∙ y.types p m.0 k m.1 j;
}

-- a path that is kept is a path
pub kept_there : (cut : Cut) (r : Reader) (p : Path) (n : ℕ) → (without cut r).node_at p ≡ Some n → r.node_at p ≡ Some n
kept_there cut r p n h = by_kept (is_kept cut p) refl
  where
    by_kept : (b : Bool) → is_kept cut p ≡ b → r.node_at p ≡ Some n
    by_kept true e = rw e at h
    by_kept false e = absurd (let z : None ≡ Some n = rw e at h in cc)

-- what a cut keeps of a graph whose types and features are in range
pub kept_inside : (cut : Cut) (g k : GraphMap) (types feats : ℕ) → IsGraph g → IsGraph k → IsKeptOf cut (reader_of g) (reader_of k) → IsGraphIn types feats g → IsGraphIn types feats k
kept_inside cut g k types feats is gi kept within = record {
  types_in = λ i d h. subst (λ x. x < types) (get_or_default k.types i 0 d h) (type_in i h);
  feats_in = feats_in;
}
  where
    old : (p : Path) (n : ℕ) → walk (table_of k) 0 p ≡ Some n → (m : ℕ) × (walk (table_of g) 0 p ≡ Some m) × ((without cut (reader_of g)).node_at p ≡ Some m)
    old p n e = let b = kept.there_back p n e in (b.0, kept_there cut (reader_of g) p b.0 b.1, b.1)

    old_in : (p : Path) (n : ℕ) → walk (table_of g) 0 p ≡ Some n → n < length g.types
    old_in p n e = (walk_ends (table_of g) is.numbered.table 0 n p is.numbered.filled e).0

    type_in : (i : ℕ) → i < length k.types → type_at k i < types
    type_in i h =
        let e = (gi.numbered.is_least i h).leads in
        let b = old (gi.least i) i e in
        subst (λ x. x < types) (kept.types (gi.least i) b.0 i b.2 e) (within.types_in b.0 0 (old_in (gi.least i) b.0 b.1))

    arc_in : (n f m : ℕ) → n < length g.types → walk (table_of g) n (f ∷ []) ≡ Some m → f < feats
    arc_in n f m h e = by_arc (arc_to (arcs_at g n) f) refl
      where
        by_arc : (o : Option ℕ) → arc_to (arcs_at g n) f ≡ o → f < feats
        by_arc None q = absurd (let y : walk (table_of g) n (f ∷ []) ≡ None = rw (walk, q) refl in cc)
        by_arc (Some j) q = let a = arc_to_has (arcs_at g n) f j q in subst (λ x. x < feats) a.2 (within.feats_in n a.0 h a.1)

    feats_in : (i : ℕ) (a : GraphArc) → i < length k.types → Has a (arcs_at k i) → a.feat.0 < feats
    feats_in i a h has =
        let p = gi.least i in
        let f = a.feat.0 in
        let e = (gi.numbered.is_least i h).leads in
        let found = rises_found (arcs_at k i) a (gi.rises i h) has in
        let one : walk (table_of k) 0 (p ++ f ∷ []) ≡ Some a.to.0 = walk-append (table_of k) gi.numbered.table 0 i p (f ∷ []) e ∙ walk-step (table_of k) i a.to.0 f [] found in
        let here_is = old p i e in
        let there_is = old (p ++ f ∷ []) a.to.0 one in
        let on = sym (walk-append (table_of g) is.numbered.table 0 here_is.0 p (f ∷ []) here_is.1) ∙ there_is.1 in
        arc_in here_is.0 f there_is.0 (old_in p here_is.0 here_is.1) on

-- and whose paths aren't too long
pub kept_short : (cut : Cut) (g k : GraphMap) (system : Grammar) → IsGraph g → IsGraph k → IsKeptOf cut (reader_of g) (reader_of k) → IsShort system g → IsShort system k
kept_short cut g k system is gi kept short = record {
  graph_in = kept_inside cut g k (count_of system.types) (length system.introducers) is gi kept short.graph_in;
  short = λ p n e. let b = kept.there_back p n e in short.short p b.0 (kept_there cut (reader_of g) p b.0 b.1);
  feats_in = λ p n e. let b = kept.there_back p n e in short.feats_in p b.0 (kept_there cut (reader_of g) p b.0 b.1);
}

module _ (cut : Cut) (g : GraphMap) (is : IsGraph g) where
  -- heights fall along each arc
  falls : (n f m : ℕ) → (table_of g).arc n f ≡ Some m → is.height m < is.height n
  falls n f m e = by_size (cases_lt n (length g.types))
    where
      by_size : (n < length g.types) ⊎ (length g.types ≤ n) → is.height m < is.height n
      by_size (inl h) = is.falls.falls n f m h refl e
      by_size (inr h) =
          let none : arcs_at g n ≡ [] = get_or_past g.arcs n [] (let z = is.even in omega (arith, h, z)) in
          absurd (let y : None ≡ Some m = rw none at e in cc)

  module _ (types : List Ty) (starts : List ℕ) (arcs : List GraphArc) (rows : IsCutPlan cut g types starts arcs) where
    abbrev plan : GraphMap
    plan = graph_map types starts arcs

    size : length types ≡ length g.types
    size = sym (length-map types (λ t. t.0)) ∙ ap length rows.types_are

    arc_is : (n f : ℕ) → (table_of (graph_map types starts arcs)).arc n f ≡ (if leaves cut (n == 0) f then (table_of g).arc n f else None)
    arc_is n f = by_size (cases_lt n (length types))
      where
        by_size : (n < length types) ⊎ (length types ≤ n) → arc_to (arcs_at (graph_map types starts arcs) n) f ≡ (if leaves cut (n == 0) f then arc_to (arcs_at g n) f else None)
        by_size (inl h) =
            ap (λ l. arc_to l f) (row_at types starts arcs n h ∙ rows.rows_are n h) ∙ arc_to-filter (leaves cut (n == 0)) (arcs_at g n) f
        by_size (inr h) =
            let mine : arcs_at (graph_map types starts arcs) n ≡ [] =
            get_or_past (map (row starts arcs) _) n [] (let z = length-map-range_with_len (row starts arcs) 0 (length types) in omega (arith, h, z)) in
            let none : arcs_at g n ≡ [] = get_or_past g.arcs n [] (let z = is.even in omega (arith, h, z, size)) in
            ap (λ l. arc_to l f) mine ∙ either_none (leaves cut (n == 0) f) (arc_to (arcs_at g n) f) (ap (λ l. arc_to l f) none)

    bared : IsBared cut g (graph_map types starts arcs)
    bared = record {
      types = λ n. ap (λ l. slice_index_or l n 0) rows.types_are;
      root = λ f. arc_is 0 f;
      others = λ n f e. arc_is n f ∙ ap (λ b. if leaves cut b f then (table_of g).arc n f else None) (ne_eqb n 0 e);
    }

    -- no node reaches itself
    plan_falls : (n f m : ℕ) → (table_of (graph_map types starts arcs)).arc n f ≡ Some m → is.height m < is.height n
    plan_falls n f m e = by_left (leaves cut (n == 0) f) refl
      where
        by_left : (b : Bool) → leaves cut (n == 0) f ≡ b → is.height m < is.height n
        by_left true q = falls n f m (sym (arc_is n f ∙ rw q refl) ∙ e)
        by_left false q = absurd (let y : None ≡ Some m = sym (arc_is n f ∙ rw q refl) ∙ e in cc)

    walk_falls : (p : Path) (n m : ℕ) → walk (table_of (graph_map types starts arcs)) n p ≡ Some m → is.height m + length p ≤ is.height n
    walk_falls [] n m e = let z : n ≡ m = cc in let y = ap is.height z in omega (arith, y)
    walk_falls (f ∷ p) n m e = by_arc ((table_of (graph_map types starts arcs)).arc n f) refl (λ j. walk_falls p j m)
      where
        by_arc : (o : Option ℕ) → (table_of (graph_map types starts arcs)).arc n f ≡ o →
            ((j : ℕ) → walk (table_of (graph_map types starts arcs)) j p ≡ Some m → is.height m + length p ≤ is.height j) → is.height m + length (f ∷ p) ≤ is.height n
        by_arc None q go = absurd (let y : walk (table_of (graph_map types starts arcs)) n (f ∷ p) ≡ None = rw (walk, q) refl in cc)
        by_arc (Some j) q go =
            let y : walk (table_of (graph_map types starts arcs)) n (f ∷ p) ≡ walk (table_of (graph_map types starts arcs)) j p = rw (walk, q) refl in
            let z = go j (sym y ∙ e) in
            let x = plan_falls n f j q in
            omega (arith, x, z)

    pub no_cycle : (n : Node) → IsClash (graph_map types starts arcs) (Cycle n) → ⊥
    no_cycle n (reached, (p, some, e)) =
        some (empty p (let z = walk_falls p n.0 n.0 e in omega (arith, z)))
      where
        empty : (p : Path) → length p ≡ 0 → p ≡ []
        empty [] z = refl
        empty (f ∷ p) z = absurd (omega (arith, z))

    pub ordered_kept : (k : GraphMap) → IsOrdering (graph_map types starts arcs) k → IsKeptOf cut (reader_of g) (reader_of k)
    ordered_kept k order = same_on (bared_kept cut g (graph_map types starts arcs) bared is.height falls) order.same
