-- Graphs in range whose facts are consistent.
use Rattle.std.specs.Prelude.{ℕ, ◌≡◌, ◌<◌, ◌==◌, Bool, true, false, Option, Some, None, List, [], ◌∷◌, All, length}
use Rattle.std.proofs.Common.{refl, sym, ◌∙◌, subst, zero, suc, arith, eqb-true}
use Rattle.type_hierarchy.specs.Table.{count_of}
use Rattle.fs_model.specs.Claims.{Path, exists_at, Has, here, there}
use Rattle.fs_model.specs.Closure.{IsConsistent, given_claim}
use Rattle.fs_model.specs.Sources.{Told, tells_exists}
use Rattle.fs_model.specs.Table.{walk}
use Rattle.fs_graph.specs.declared.graph.GraphArc.{GraphArc}
use Rattle.fs_graph.specs.GraphMap.{GraphMap, IsGraph, table_of, arcs_at, arc_to, reader_of}
use Rattle.fs_closing.specs.Rules.{Grammar, system_of}
use Rattle.fs_unify.specs.Entering.{IsGraphIn}
use Rattle.fs_trim.specs.Cutting.{IsShort}
use Rattle.tree_model.specs.Views.{source_alone}
use Rattle.tree_model.proofs.ViewLemmas.{alone_back}

found : (arcs : List GraphArc) (f m : ℕ) → arc_to arcs f ≡ Some m → (a : GraphArc) × Has a arcs × (a.feat.0 ≡ f)
found [] f m e = absurd (cc)
found (a ∷ arcs) f m e = by_test (a.feat.0 == f) refl (found arcs f m)
  where
    by_test : (b : Bool) → (a.feat.0 == f) ≡ b → (arc_to arcs f ≡ Some m → (x : GraphArc) × Has x arcs × (x.feat.0 ≡ f)) → (x : GraphArc) × Has x (a ∷ arcs) × (x.feat.0 ≡ f)
    by_test true q go = (a, here, eqb-true a.feat.0 f q)
    by_test false q go = let z = go (let y : arc_to (a ∷ arcs) f ≡ arc_to arcs f = rw q refl in sym y ∙ e) in (z.0, there z.1, z.2)

all_more : (feats f : ℕ) (p : Path) → f < feats → All (λ h. h < feats) p → All (λ h. h < feats) (f ∷ p)
all_more feats f p a b zero d l = a
all_more feats f p a b (suc i) d l = b i d (omega (arith, l))

-- a path that exists has features that are there
module _ (types feats : ℕ) (g : GraphMap) (is : IsGraph g) (in_range : IsGraphIn types feats g) where
  features_in : (p : Path) (k n : ℕ) → k < length g.types → walk (table_of g) k p ≡ Some n → All (λ f. f < feats) p
  features_in [] k n h e = λ i d l. absurd (omega (arith, l))
  features_in (f ∷ p) k n h e = by_arc (arc_to (arcs_at g k) f) refl (λ m low q. features_in p m n low q)
    where
      by_arc : (o : Option ℕ) → arc_to (arcs_at g k) f ≡ o → ((m : ℕ) → m < length g.types → walk (table_of g) m p ≡ Some n → All (λ h. h < feats) p) → All (λ h. h < feats) (f ∷ p)
      by_arc None q go = absurd (let y : walk (table_of g) k (f ∷ p) ≡ None = rw (walk, q) refl in cc)
      by_arc (Some m) q go =
          let z = found (arcs_at g k) f m q in
          let rest = go m (is.numbered.table.arc_in k f m h q) (let y : walk (table_of g) k (f ∷ p) ≡ walk (table_of g) m p = rw (walk, q) refl in sym y ∙ e) in
          all_more feats f p (subst (λ x. x < feats) z.2 (in_range.feats_in k z.0 h z.1)) rest

pub short_where : (g : Grammar) (graph : GraphMap) → IsGraph graph → IsGraphIn (count_of g.types) (length g.introducers) graph → IsConsistent (system_of g) (Told (source_alone (reader_of graph))) → IsShort g graph
short_where g graph is in_range consistent = record {
  graph_in = in_range;
  short = λ p n e. consistent.bounded p (given_claim _ (alone_back (reader_of graph) (exists_at p) (tells_exists p n e)));
  feats_in = λ p n e. features_in (count_of g.types) (length g.introducers) graph is in_range p 0 n is.numbered.filled e;
}
