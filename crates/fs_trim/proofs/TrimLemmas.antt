-- What the calls of unification give.
use Rattle.std.specs.Prelude.{ℕ, ◌≡◌, ◌<◌, ◌==◌, Option, Some, None, List, [], ◌∷◌, All, IfSome, length, option_map, slice_index_or}
use Rattle.std.proofs.Common.{refl, sym, ◌∙◌, subst, zero, suc, arith, eqb-true, true, false, Bool}
use Rattle.fs_model.specs.Claims.{Path, Has, here, there}
use Rattle.fs_model.specs.Sources.{Source, IsUnified}
use Rattle.fs_model.specs.Table.{walk}
use Rattle.type_hierarchy.specs.Table.{count_of}
use Rattle.fs_graph.specs.declared.graph.GraphArc.{GraphArc}
use Rattle.fs_graph.specs.GraphMap.{GraphMap, IsGraph, table_of, arcs_at, arc_to, reader_of}
use Rattle.fs_closing.specs.Rules.{Grammar, system_of}
use Rattle.fs_unify.specs.Entering.{IsGraphIn}
use Rattle.fs_unify.specs.Owing.{IsWellFormedBut, OwedRules, ListsOwed, owes_all, owes_rules}
use Rattle.fs_unify.specs.Placing.{PlacedGraph, IsPlacedIn}
use Rattle.tree_model.specs.Cuts.{Cut}
use Rattle.tree_model.specs.Views.{IsTrimmed, source_alone}
use Rattle.tree_model.proofs.Steps.{answers_are_short, cut_trims, steps_trim}
use Rattle.fs_trim.specs.Cutting.{owed_of, IsShort}
use Rattle.fs_trim.specs.Inner.Keeping.{KeepsUnified}

found : (arcs : List GraphArc) (f m : ℕ) → arc_to arcs f ≡ Some m → (a : GraphArc) × Has a arcs × (a.feat.0 ≡ f)
found [] f m e = absurd (cc)
found (a ∷ arcs) f m e = by_test (a.feat.0 == f) refl (found arcs f m)
  where
    by_test : (b : Bool) → (a.feat.0 == f) ≡ b → (arc_to arcs f ≡ Some m → (x : GraphArc) × Has x arcs × (x.feat.0 ≡ f)) → (x : GraphArc) × Has x (a ∷ arcs) × (x.feat.0 ≡ f)
    by_test true q go = (a, here, eqb-true a.feat.0 f q)
    by_test false q go = let z = go (let y : arc_to (a ∷ arcs) f ≡ arc_to arcs f = rw q refl in sym y ∙ e) in (z.0, there z.1, z.2)

all_more : (feats f : ℕ) (p : Path) → f < feats → All (λ h. h < feats) p → All (λ h. h < feats) (f ∷ p)
all_more feats f p a b zero d l = a
all_more feats f p a b (suc i) d l = b i d (omega (arith, l))

-- a path that exists has features that are there
paths_in : (types feats : ℕ) (g : GraphMap) → IsGraphIn types feats g → ((n : ℕ) (a : GraphArc) → Has a (arcs_at g n) → n < length g.types) → (p : Path) (k n : ℕ) → walk (table_of g) k p ≡ Some n → All (λ f. f < feats) p
paths_in types feats g is even [] k n e = λ i d l. absurd (omega (arith, l))
paths_in types feats g is even (f ∷ p) k n e = by_arc (arc_to (arcs_at g k) f) refl (λ m h. paths_in types feats g is even p m n h)
  where
    by_arc : (o : Option ℕ) → arc_to (arcs_at g k) f ≡ o → ((m : ℕ) → walk (table_of g) m p ≡ Some n → All (λ h. h < feats) p) → All (λ h. h < feats) (f ∷ p)
    by_arc None q go = absurd (let y : walk (table_of g) k (f ∷ p) ≡ None = rw (walk, q) refl in cc)
    by_arc (Some m) q go =
        let z = found (arcs_at g k) f m q in
        let low = is.feats_in k z.0 (even k z.0 z.1) z.1 in
        let rest = go m (let y : walk (table_of g) k (f ∷ p) ≡ walk (table_of g) m p = rw (walk, q) refl in sym y ∙ e) in
        all_more feats f p (subst (λ x. x < feats) z.2 low) rest

no_arcs : (xs : List (List GraphArc)) (n : ℕ) (a : GraphArc) → Has a (slice_index_or xs n []) → n < length xs
no_arcs [] n a h = elim h [ ]
no_arcs (x ∷ xs) zero a h = omega arith
no_arcs (x ∷ xs) (suc n) a h = let z = no_arcs xs n a h in omega (arith, z)

pub short_of : (g : Grammar) (source : Source) (cuts : List Cut) (last : Cut) (graph : GraphMap) → IsGraph graph → IsGraphIn (count_of g.types) (length g.introducers) graph →
    IsTrimmed (system_of g) source cuts last (Some (reader_of graph)) → IsShort g graph
short_of g source cuts last graph shape is made = record {
  graph_in = is;
  short = λ p n e. answers_are_short (system_of g) source cuts last (reader_of graph) made p n e;
  feats_in = λ p n e. paths_in (count_of g.types) (length g.introducers) graph is (λ k a h. let z = no_arcs graph.arcs k a h in let y = shape.even in omega (arith, z, y)) p 0 n e;
}

pub alone_in : (g : Grammar) (graph : GraphMap) → IsGraphIn (count_of g.types) (length g.introducers) graph → (p : PlacedGraph) → Has p (record { place = []; graph = graph; owes = owes_all } ∷ []) → IsPlacedIn g p
alone_in g graph is p here = record { place_in = λ i d l. absurd (omega (arith, l)); graph_in = is; owed_in = tt }
alone_in g graph is p (there h) = elim h [ ]

-- what a cut keeps, in the words of the model
pub without_answer : (g : Grammar) (source : Source) (cut : Cut) (o : Option GraphMap) → KeepsUnified g source cut o → IsTrimmed (system_of g) source [] cut (option_map reader_of o)
without_answer g source cut None x = x
without_answer g source cut (Some k) x = cut_trims (system_of g) source cut x.whole (reader_of k) x.unified x.keeps

pub without_known : (g : Grammar) (source : Source) (cut : Cut) (o : Option GraphMap) → KeepsUnified g source cut o → IfSome o (IsShort g)
without_known g source cut None x = tt
without_known g source cut (Some k) x = short_of g source [] cut k x.graph x.graph_in (without_answer g source cut (Some k) x)

pub without_owes : (g : Grammar) (source : Source) (cut : Cut) (o : Option GraphMap) → KeepsUnified g source cut o →
    IfSome o (λ k. IsWellFormedBut (system_of g) (reader_of k) (owed_of cut))
without_owes g source cut None x = tt
without_owes g source cut (Some k) x = x.owes

-- and where what an earlier cut left was unified alone
pub again_answer : (g : Grammar) (source alone : Source) (cut last : Cut) (bare : GraphMap) (o : Option GraphMap) → alone ≡ source_alone (reader_of bare) →
    IsTrimmed (system_of g) source [] cut (Some (reader_of bare)) → KeepsUnified g alone last o → IsTrimmed (system_of g) source (cut ∷ []) last (option_map reader_of o)
again_answer g source alone cut last bare None e made x =
    absurd ((steps_trim (system_of g) source cut last (reader_of bare) made).1 (subst (λ a. IsUnified (system_of g) a None) e x))
again_answer g source alone cut last bare (Some k) e made x =
    (steps_trim (system_of g) source cut last (reader_of bare) made).0 x.whole (reader_of k)
    (subst (λ a. IsUnified (system_of g) a (Some x.whole)) e x.unified) x.keeps

pub again_known : (g : Grammar) (source alone : Source) (cut last : Cut) (bare : GraphMap) (o : Option GraphMap) → alone ≡ source_alone (reader_of bare) →
    IsTrimmed (system_of g) source [] cut (Some (reader_of bare)) → KeepsUnified g alone last o → IfSome o (IsShort g)
again_known g source alone cut last bare None e made x = tt
again_known g source alone cut last bare (Some k) e made x =
    short_of g source (cut ∷ []) last k x.graph x.graph_in (again_answer g source alone cut last bare (Some k) e made x)

-- what such a cut left is a part
pub cut_in : (g : Grammar) (graph : GraphMap) (rules : OwedRules) (cut : Cut) → IsGraphIn (count_of g.types) (length g.introducers) graph →
    IsWellFormedBut (system_of g) (reader_of graph) (owed_of cut) → ListsOwed g (owed_of cut) rules →
    (p : PlacedGraph) → Has p (record { place = []; graph = graph; owes = owes_rules rules } ∷ []) → IsPlacedIn g p
cut_in g graph rules cut is well lists p here = record {
  place_in = λ i d l. absurd (omega (arith, l));
  graph_in = is;
  owed_in = record { facts = owed_of cut; lists = lists; well_formed = well };
}
cut_in g graph rules cut is well lists p (there h) = elim h [ ]
