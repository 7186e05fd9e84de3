-- A graph that stands in a table, from the node on where it entered.
use Rattle.std.proofs.Common.{ℕ, ◌≡◌, ◌<◌, ◌+◌, true, Option, Some, None, List, [], ◌∷◌, length, refl, sym, ◌∙◌, ap, subst, arith}
use Rattle.std.specs.Option.{option_map}
use Rattle.fs_model.specs.Claims.{Path, Claim, exists_at, same, below, System}
use Rattle.fs_model.specs.Table.{Table, IsTable, NodeClaim, is_there, is_same, is_under, from, Seen, by_type, Follows, stated, there_left, there_under, same_back, same_on, same_further, under_same, under_higher, walk}
use Rattle.fs_model.specs.Steps.{StandsIn}
use Rattle.fs_model.proofs.TableLemmas.{walk-step}
use Rattle.fs_model.proofs.PartLemmas.{walk_follows}
use Rattle.fs_graph.specs.GraphMap.{GraphMap, IsGraph, table_of, type_at, arcs_at, arc_to, reader_of}
use Rattle.fs_closing.specs.NodeSteps.{EntersTable}

module _ (g : GraphMap) (graph : IsGraph g) (t t' : Table) (enters : EntersTable g t t') where
  pub stays : (k : ℕ) → t'.live (t.size + k) ≡ t.size + k
  stays k = enters.live_new (t.size + k) (omega arith)

  pub walk_in : (p : Path) (k n : ℕ) → k < length g.types → walk (table_of g) k p ≡ Some n → walk t' (t.size + k) p ≡ Some (t.size + n)
  walk_in [] k n h e =
      let d : k ≡ n = cc in
      ap Some (stays k ∙ ap (λ i. t.size + i) d)
  walk_in (f ∷ p) k n h e = go (arc_to (arcs_at g k) f) refl (λ m. walk_in p m n)
    where
      go : (x : Option ℕ) → arc_to (arcs_at g k) f ≡ x → ((m : ℕ) → m < length g.types → walk (table_of g) m p ≡ Some n → walk t' (t.size + m) p ≡ Some (t.size + n)) →
          walk t' (t.size + k) (f ∷ p) ≡ Some (t.size + n)
      go None is rest =
          let stops : None ≡ walk (table_of g) k (f ∷ p) = ap (λ o. elim o as (λ _. Option ℕ) [ None ↦ None | Some m ↦ walk (table_of g) m p ]) (sym is) in
          absurd (let d : None ≡ Some n = stops ∙ e in cc)
      go (Some m) is rest =
          let goes = walk-step (table_of g) k m f p is in
          let inside = graph.numbered.table.arc_in k f m h is in
          let arc : t'.arc (t'.live (t.size + k)) f ≡ Some (t.size + m) =
          ap (λ i. t'.arc i f) (stays k) ∙ enters.arc_new k f h ∙ ap (option_map (λ i. t.size + i)) is in
          walk-step t' (t.size + k) (t.size + m) f p arc ∙ rest m inside (sym goes ∙ e)

  pub walk_ends_in : (p : Path) (k n : ℕ) → k < length g.types → walk (table_of g) k p ≡ Some n → n < length g.types
  walk_ends_in [] k n h e = let d : k ≡ n = cc in subst (λ i. i < length g.types) d h
  walk_ends_in (f ∷ p) k n h e = go (arc_to (arcs_at g k) f) refl (λ m. walk_ends_in p m n)
    where
      go : (x : Option ℕ) → arc_to (arcs_at g k) f ≡ x → ((m : ℕ) → m < length g.types → walk (table_of g) m p ≡ Some n → n < length g.types) → n < length g.types
      go None is rest =
          let stops : None ≡ walk (table_of g) k (f ∷ p) = ap (λ o. elim o as (λ _. Option ℕ) [ None ↦ None | Some m ↦ walk (table_of g) m p ]) (sym is) in
          absurd (let d : None ≡ Some n = stops ∙ e in cc)
      go (Some m) is rest = rest m (graph.numbered.table.arc_in k f m h is) (sym (walk-step (table_of g) k m f p is) ∙ e)

  pub graph_stands : StandsIn t' (reader_of g) t.size (λ n. t.size + n)
  graph_stands = record {
    paths = λ p n e. subst (λ i. walk t' i p ≡ Some (t.size + n)) (let z : t.size + 0 ≡ t.size = omega arith in z) (walk_in p 0 n graph.numbered.filled e);
    types = λ p n e. enters.type_new n (walk_ends_in p 0 n graph.numbered.filled e);
  }

-- what is seen in the graph follows in the table
module _ (s : System) (g : GraphMap) (graph : IsGraph g) (t t' : Table) (enters : EntersTable g t t') (ok : IsTable t') (work : List NodeClaim) where
  pub node_under : (k u : ℕ) → k < length g.types → s.is_below (type_at g k) u ≡ true → Follows s t' work (is_under (t.size + k) [] u)
  node_under k u h b =
      let inside : t.size + k < t'.size = omega (arith, enters.size_is) in
      under_higher (t.size + k) (t'.type_of (t.size + k)) u [] (stated _ (by_type (t.size + k) inside (stays g graph t t' enters k)))
      (ap (λ y. s.is_below y u) (enters.type_new k h) ∙ b)

  path_follows : (k : ℕ) (q : Path) (n : ℕ) → k < length g.types → walk (table_of g) k q ≡ Some n → Follows s t' work (is_same (t.size + k) q (t.size + n) [])
  path_follows k q n h e =
      let inside : t.size + k < t'.size = omega (arith, enters.size_is) in
      walk_follows s t' work ok (t.size + k) (t.size + n) q inside (walk_in g graph t t' enters q k n h e)

  pub seen_stands : (k : ℕ) (c : Claim) → k < length g.types → Seen s (table_of g) (from k c) → Follows s t' work (from (t.size + k) c)
  seen_stands k (exists_at q) h x = there_left _ _ _ _ (path_follows k q x.0 h x.1)
  seen_stands k (same q r) h x = same_on _ _ _ _ _ _ (path_follows k q x.0 h x.1) (same_back _ _ _ _ (path_follows k r x.0 h x.2))
  seen_stands k (below q v) h x =
      under_same (t.size + x.0) (t.size + k) v [] q (same_back _ _ _ _ (path_follows k q x.0 h x.1))
      (node_under x.0 v (walk_ends_in g graph t t' enters q k x.0 h x.1) x.2)

-- a claim at a node follows at another one that is to be this node
pub follows_joined : (s : System) (t : Table) (work : List NodeClaim) (n m : ℕ) (c : Claim) → Follows s t work (is_same n [] m []) →
    Follows s t work (from m c) → Follows s t work (from n c)
follows_joined s t work n m (exists_at q) joint x = there_left n m q q (same_back m n q q (same_further m n [] [] q (same_back n m [] [] joint) x))
follows_joined s t work n m (same q r) joint x =
    same_on _ _ _ _ _ _ (path q (there_left _ _ _ _ x))
    (same_on _ _ _ _ _ _ x (same_back _ _ _ _ (path r (there_left _ _ _ _ (same_back _ _ _ _ x)))))
  where
    path : (p : Path) → Follows s t work (is_there m p) → Follows s t work (is_same n p m p)
    path p h = same_back m n p p (same_further m n [] [] p (same_back n m [] [] joint) h)
follows_joined s t work n m (below q u) joint x =
    under_same m n u q q (same_further m n [] [] q (same_back n m [] [] joint) (there_under m u q x)) x
