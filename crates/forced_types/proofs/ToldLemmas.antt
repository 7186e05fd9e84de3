-- Nodes that say what a graph tells.
use Rattle.std.proofs.Common.{ℕ, ◌≡◌, ◌<◌, ◌≤◌, ◌+◌, ◌⊎◌, inl, inr, Option, Some, None, List, [], ◌∷◌, ◌++◌, length, refl, sym, ◌∙◌, ap, subst, arith, length-append}
use Rattle.fs_model.specs.Claims.{Path, Claim, exists_at, same, below, at}
use Rattle.fs_model.specs.Sources.{Tells, tells_exists, tells_same, tells_below}
use Rattle.fs_model.specs.Table.{walk}
use Rattle.fs_model.proofs.TableLemmas.{walk-prefix, walk-step}
use Rattle.fs_graph.specs.Facts.{path_of}
use Rattle.fs_graph.specs.GraphMap.{GraphMap, IsGraph, table_of, arcs_at, arc_to, node_at, reader_of}
use Rattle.forced_types.specs.declared.given.Given.{Given}
use Rattle.forced_types.specs.declared.nodes.Nodes.{Nodes}
use Rattle.forced_types.specs.declared.placed.PlacedGraph.{PlacedGraph}
use Rattle.forced_types.specs.Forced.{IsWithin, IsPathIn}
use Rattle.forced_types.specs.Inner.Sound.{most_of, size_of, entry_in, path_in}
use Rattle.forced_types.specs.Inner.Closed.{table_in, walk_in, IsFlat, HasFront, HoldsAt, IsPartTold}
use Rattle.forced_types.specs.Inner.Told.{spot_at, IsEndTold, IsNodeTold}
use Rattle.forced_types.proofs.ClosedLemmas.{one_path, walk-on}
use Rattle.forced_types.proofs.StepLemmas.{arc_has}

-- a path of a claim at a place
pub path_in_at : (p y : Path) (c : Claim) → IsPathIn y (at p c) → (x : Path) × (y ≡ p ++ x) × IsPathIn x c
path_in_at p y (exists_at x) e = (x, sym e, refl)
path_in_at p y (same x z) (inl e) = (x, sym e, inl refl)
path_in_at p y (same x z) (inr e) = (z, sym e, inr refl)
path_in_at p y (below x u) e = (x, sym e, refl)

-- a path within the bound begins with no place beyond it
within_place : (p : Path) (most : ℕ) (c : Claim) → IsWithin most (at p c) → length p ≤ most
within_place p most (exists_at x) w = let h : length (p ++ x) ≤ most = w in omega (arith, length-append p x)
within_place p most (same x y) w = let h : length (p ++ x) ≤ most = w.0 in omega (arith, length-append p x)
within_place p most (below x u) w = let h : length (p ++ x) ≤ most = w in omega (arith, length-append p x)

-- nodes that were merged into one node have the same walks
walk_joined : (t : Nodes) (a b : ℕ) (p : Path) → (entry_in t a).up ≡ (entry_in t b).up → walk_in t a p ≡ walk_in t b p
walk_joined t a b [] e = ap Some e
walk_joined t a b (f ∷ p) e = ap (λ x. elim (arc_to (entry_in t x).arcs f) as (λ _. Option ℕ) [ None ↦ None | Some m ↦ walk_in t m p ]) e

-- of a part at a place beyond the bound no more is told than the place, as far as the bound
pub far_told : (g : Given) (t : Nodes) (p : PlacedGraph) → most_of g < length (path_of p.at.now) → HasFront t 0 (most_of g) (path_of p.at.now) → IsPartTold g t p
far_told g t p far front c tells = record {
  fronts = λ q r i l. let y = path_in_at (path_of p.at.now) (q ++ r) c i in go q r y.0 l (one_path (path_of p.at.now) y.0 q r y.1);
  claim = λ w. let h = within_place (path_of p.at.now) (most_of g) c w in absurd (omega arith);
}
  where
    go : (q r y : Path) → length q ≤ most_of g → ((s : Path) × (path_of p.at.now ≡ q ++ s)) ⊎ ((s : Path) × (q ≡ path_of p.at.now ++ s) × (s ++ r ≡ y)) →
        (m : ℕ) × (walk_in t 0 q ≡ Some m)
    go q r y l (inl a) = front q a.0 (sym a.1) l
    go q r y l (inr a) = absurd (omega (arith, l, ap length a.1, length-append (path_of p.at.now) a.0, far))

module _ (g : Given) (t : Nodes) (graph : GraphMap) (spots : List ℕ) (ok : IsGraph graph)
    (told : (k : ℕ) → k < length graph.types → IsNodeTold g t graph spots k) where
  -- where a path of the graph leads, there it leads from the node that was made
  abbrev Led : ℕ → Path → ℕ → Type 0
  Led k p m =
      (spot_at spots m < size_of t) × (length (path_in t (spot_at spots m)) ≤ length (path_in t (spot_at spots k)) + length p)
      × (walk_in t (spot_at spots k) p ≡ Some (entry_in t (spot_at spots m)).up) × (m < length graph.types)

  led : (k : ℕ) (p : Path) (m : ℕ) → k < length graph.types → spot_at spots k < size_of t →
      length (path_in t (spot_at spots k)) + length p ≤ most_of g → walk (table_of graph) k p ≡ Some m → Led k p m
  led k [] m k_in h l e =
      let is : k ≡ m = cc in
      subst (λ x. Led k [] x) is (h, (let z : length (path_in t (spot_at spots k)) ≤ length (path_in t (spot_at spots k)) + 0 = omega arith in z), refl, k_in)
  led k (f ∷ p) m k_in h l e = go (arc_to (arcs_at graph k) f) refl e (λ j. led j p m)
    where
      go : (o : Option ℕ) → arc_to (arcs_at graph k) f ≡ o → elim o as (λ _. Option ℕ) [ None ↦ None | Some j ↦ walk (table_of graph) j p ] ≡ Some m →
          ((j : ℕ) → j < length graph.types → spot_at spots j < size_of t → length (path_in t (spot_at spots j)) + length p ≤ most_of g →
          walk (table_of graph) j p ≡ Some m → Led j p m) → Led k (f ∷ p) m
      go None _ e' _ = absurd cc
      go (Some j) is e' further =
          let j_in : j < length graph.types = ok.numbered.table.arc_in k f j k_in is in
          let a = arc_has (arcs_at graph k) f j is in
          let room : length (path_in t (spot_at spots k)) < most_of g = omega arith in
          let end' = (told k k_in).arcs_told h a.0 a.1 room in
          let end : IsEndTold t spots (spot_at spots k) (record { feat = record { 0 = f }; to = record { 0 = j } }) =
          subst (λ x. IsEndTold t spots (spot_at spots k) (record { feat = record { 0 = f }; to = record { 0 = x } })) a.3
          (subst (λ x. IsEndTold t spots (spot_at spots k) (record { feat = record { 0 = x }; to = a.0.to })) a.2 end') in
          let rest = further j j_in end.inside (let n = end.near in omega arith) e' in (
            rest.0,
            (let n = end.near in let v = rest.1 in omega arith),
            walk-step (table_in t) (spot_at spots k) end.end f p end.leads ∙ walk_joined t end.end (spot_at spots j) p end.same_node ∙ rest.2,
            rest.3,
          )

  module _ (flat : IsFlat t) (filled : 0 < size_of t) (place : Path) (root : spot_at spots 0 < size_of t)
      (near : length (path_in t (spot_at spots 0)) ≤ length place) (leads : walk_in t 0 place ≡ Some (entry_in t (spot_at spots 0)).up) where
    -- a path of the graph leads on from the place
    placed : (p : Path) (m : ℕ) → node_at graph p ≡ Some m → length (place ++ p) ≤ most_of g →
        (walk_in t 0 (place ++ p) ≡ Some (entry_in t (spot_at spots m)).up) × (spot_at spots m < size_of t) × (m < length graph.types)
    placed p m e l =
        let r = led 0 p m ok.numbered.filled root (omega (arith, near, length-append place p, l)) e in (
          walk-on t flat 0 (entry_in t (spot_at spots 0)).up place p filled leads
              ∙ walk_joined t (entry_in t (spot_at spots 0)).up (spot_at spots 0) p (flat.twice (spot_at spots 0) root) ∙ r.2,
          r.0,
          r.3,
        )

    before : (p q r : Path) (m : ℕ) → node_at graph p ≡ Some m → q ++ r ≡ place ++ p → length q ≤ most_of g → (n : ℕ) × (walk_in t 0 q ≡ Some n)
    before p q r m e is l = go (one_path place p q r is)
      where
        go : ((s : Path) × (place ≡ q ++ s)) ⊎ ((s : Path) × (q ≡ place ++ s) × (s ++ r ≡ p)) → (n : ℕ) × (walk_in t 0 q ≡ Some n)
        go (inl a) = walk-prefix (table_in t) 0 (entry_in t (spot_at spots 0)).up q a.0 (subst (λ x. walk_in t 0 x ≡ Some (entry_in t (spot_at spots 0)).up) a.1 leads)
        go (inr a) =
            let j = walk-prefix (table_of graph) 0 m a.0 r (subst (λ x. node_at graph x ≡ Some m) (sym a.2) e) in
            let w = placed a.0 j.0 j.1 (omega (arith, l, ap length a.1)) in
            ((entry_in t (spot_at spots j.0)).up, ap (walk_in t 0) a.1 ∙ w.0)

    pub graph_told : (c : Claim) → Tells (reader_of graph) c → HoldsAt g.system.now.types t 0 (most_of g) (at place c)
    graph_told _ (tells_exists p m e) = record {
      fronts = λ q r i l. before p q r m e (sym i) l;
      claim = λ w. let z = placed p m e w in ((entry_in t (spot_at spots m)).up, z.0);
    }
    graph_told _ (tells_same p p' m e d) = record {
      fronts = λ q r i l. which q r i l;
      claim = λ w. ((entry_in t (spot_at spots m)).up, (placed p m e w.0).0, (placed p' m d w.1).0);
    }
      where
        which : (q r : Path) → (place ++ p ≡ q ++ r) ⊎ (place ++ p' ≡ q ++ r) → length q ≤ most_of g → (n : ℕ) × (walk_in t 0 q ≡ Some n)
        which q r (inl i) l = before p q r m e (sym i) l
        which q r (inr i) l = before p' q r m d (sym i) l
    graph_told _ (tells_below p m e) = record {
      fronts = λ q r i l. before p q r m e (sym i) l;
      claim = λ w. let z = placed p m e w in ((entry_in t (spot_at spots m)).up, z.0, (told m z.2).type_told z.1);
    }
