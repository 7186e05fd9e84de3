-- The order of keys is total and tells keys apart; a class has one key, and a key is that of one class.
use Rattle.std.proofs.Common.{ℕ, ◌≡◌, ◌↔◌, true, Option, Some, None, List, [], ◌∷◌, map, refl, sym, ap, subst, ◌∙◌, arith, eqb-true, eq-eqb}
use Rattle.std.proofs.lemmas.Cmp.{nat_cmp_total, nat_list_cmp_total, lists_total, on_total, then_total, tied_itself}
use Rattle.std.proofs.lemmas.List.{ext_get_or}
use Rattle.std.proofs.lemmas.Map.Lookups.{exact_unsigned}
use Rattle.std.specs.declared.cmp.Ordering.{Ordering}
use Rattle.std.specs.declared.cmp.Ordering.TheVariants.{Less, Equal, Greater}
use Rattle.std.specs.Ordering.{ordering_then, nat_cmp}
use Rattle.std.specs.Cmp.{IsTotalOrder}
use Rattle.std.specs.Cmp.Lexicographic.{slice_cmp}
use Rattle.chart_model.specs.declared.span.Span.{Span}
use Rattle.type_hierarchy.specs.Table.{TypeTable}
use Rattle.fs_model.specs.Claims.{Path, Has, here, there}
use Rattle.fs_model.specs.Sources.{Reader, IsSameStructure}
use Rattle.fs_graph.specs.Text.{text_of}
use Rattle.fs_graph.specs.declared.graph.GraphArc.{GraphArc}
use Rattle.fs_graph.specs.GraphMap.{GraphMap, reader_of, IsGraph}
use Rattle.fs_graph.proofs.OneList.{lists_are_one}
use Rattle.fs_graph.proofs.SameLemmas.{one_graph}
use Rattle.chart_model.specs.Classes.{Class}
use Rattle.tree_model.specs.Structures.{Structure, pairs_of}
use Rattle.tree_model.specs.Views.{view_type, same_node, view, IsInside}
use Rattle.tree_model.proofs.Closures.{has_pair}
use Rattle.tree_model.specs.Signs.{Signs}
use Rattle.line_charts.specs.Keys.{Key, IsGraphText, compare_arcs, compare_graphs, compare_keys}
use Rattle.line_charts.specs.Charts.{Keyed, IsKeyed}

arcs_total : IsTotalOrder compare_arcs
arcs_total = then_total (on_total (λ (a : GraphArc). a.feat.0) nat_cmp_total) (on_total (λ (a : GraphArc). a.to.0) nat_cmp_total)

graphs_total : IsTotalOrder compare_graphs
graphs_total = then_total (on_total (λ (g : GraphMap). g.types) nat_list_cmp_total) (on_total (λ (g : GraphMap). g.arcs) (lists_total (lists_total arcs_total)))

pub keys_total : IsTotalOrder compare_keys
keys_total =
    then_total (on_total (λ (k : Key). k.from) nat_cmp_total)
    (then_total (on_total (λ (k : Key). k.to) nat_cmp_total)
    (then_total (on_total (λ (k : Key). k.level) nat_cmp_total)
    (then_total (on_total (λ (k : Key). k.text) nat_list_cmp_total) (on_total (λ (k : Key). k.graph) graphs_total))))

-- both answers tie where the two in turn do
both_tie : (o p : Ordering) → ordering_then o p ≡ Equal → (o ≡ Equal) × (p ≡ Equal)
both_tie Less p e = cc
both_tie Equal p e = (refl, e)
both_tie Greater p e = cc

list_tie : {K : Type 0} (R : K → K → Ordering) → ((x y : K) → R x y ≡ Equal → x ≡ y) → (xs ys : List K) → slice_cmp R xs ys ≡ Equal → xs ≡ ys
list_tie R tie [] [] e = refl
list_tie R tie [] (y ∷ ys) e = cc
list_tie R tie (x ∷ xs) [] e = cc
list_tie R tie (x ∷ xs) (y ∷ ys) e =
    let both = both_tie (R x y) (slice_cmp R xs ys) e in
    let same = tie x y both.0 in
    let rest = list_tie R tie xs ys both.1 in
    cc

arc_tie : (a b : GraphArc) → compare_arcs a b ≡ Equal → a ≡ b
arc_tie a b e =
    let both = both_tie (nat_cmp a.feat.0 b.feat.0) (nat_cmp a.to.0 b.to.0) e in
    ap (λ z. record { feat = record { 0 = z }; to = a.to }) (exact_unsigned a.feat.0 b.feat.0 both.0)
    ∙ ap (λ z. record { feat = b.feat; to = record { 0 = z } }) (exact_unsigned a.to.0 b.to.0 both.1)

graph_of_parts : (g h : GraphMap) → g.types ≡ h.types → g.arcs ≡ h.arcs → g ≡ h
graph_of_parts g h types arcs = ap (λ z. record { types = z; arcs = g.arcs }) types ∙ ap (λ z. record { types = h.types; arcs = z }) arcs

graph_tie : (g h : GraphMap) → compare_graphs g h ≡ Equal → g ≡ h
graph_tie g h e =
    let both = both_tie (slice_cmp nat_cmp g.types h.types) (slice_cmp (slice_cmp compare_arcs) g.arcs h.arcs) e in
    graph_of_parts g h (list_tie nat_cmp exact_unsigned g.types h.types both.0) (list_tie (slice_cmp compare_arcs) (list_tie compare_arcs arc_tie) g.arcs h.arcs both.1)

key_of_parts : (a b : Key) → a.from ≡ b.from → a.to ≡ b.to → a.level ≡ b.level → a.text ≡ b.text → a.graph ≡ b.graph → a ≡ b
key_of_parts a b from to level text graph = λ i. record { from = from i; to = to i; level = level i; text = text i; graph = graph i }

key_tie : (a b : Key) → compare_keys a b ≡ Equal → a ≡ b
key_tie a b e =
    let texts = slice_cmp nat_cmp a.text b.text in
    let graphs = compare_graphs a.graph b.graph in
    let from = both_tie (nat_cmp a.from b.from) (ordering_then (nat_cmp a.to b.to) (ordering_then (nat_cmp a.level b.level) (ordering_then texts graphs))) e in
    let to = both_tie (nat_cmp a.to b.to) (ordering_then (nat_cmp a.level b.level) (ordering_then texts graphs)) from.1 in
    let level = both_tie (nat_cmp a.level b.level) (ordering_then texts graphs) to.1 in
    let text = both_tie texts graphs level.1 in
    key_of_parts a b (exact_unsigned a.from b.from from.0) (exact_unsigned a.to b.to to.0) (exact_unsigned a.level b.level level.0)
    (list_tie nat_cmp exact_unsigned a.text b.text text.0) (graph_tie a.graph b.graph text.1)

pub keys_equal : (a b : Key) → (compare_keys a b ≡ Equal) ↔ (a ≡ b)
keys_equal a b = (key_tie a b, λ e. subst (λ k. compare_keys a k ≡ Equal) e (tied_itself keys_total a))

-- Two graphs without further paths whose views are equal are one structure.
mapped_at : {A B : Type 0} (f h : A → B) (xs : List A) → map f xs ≡ map h xs → {x : A} → Has x xs → f x ≡ h x
mapped_at f h [] e k = elim k [ ]
mapped_at f h (x ∷ xs) e here = cc
mapped_at f h (x ∷ xs) e (there k) = let rest : map f xs ≡ map h xs = cc in mapped_at f h xs rest k

node_met : (a b : Reader) (o v : Option ℕ) (n : ℕ) → o ≡ Some n → view_type a o ≡ view_type b v → (m : ℕ) × (v ≡ Some m) × (a.type_of n ≡ b.type_of m)
node_met a b None v n e h = absurd (cc)
node_met a b (Some k) None n e h = absurd (cc)
node_met a b (Some k) (Some m) n e h =
    let is : k ≡ n = cc in
    let types : a.type_of k ≡ b.type_of m = cc in
    (m, refl, subst (λ x. a.type_of x ≡ b.type_of m) is types)

pair_to : (x y : Option ℕ) (m : ℕ) → x ≡ Some m → same_node x y ≡ true → y ≡ Some m
pair_to None y m d h = absurd (cc)
pair_to (Some i) None m d h = absurd (cc)
pair_to (Some i) (Some j) m d h = let is : i ≡ m = cc in ap Some (sym (eqb-true i j h) ∙ is)

pair_met : (o v x y : Option ℕ) (n m : ℕ) → o ≡ Some n → v ≡ Some n → x ≡ Some m → same_node o v ≡ same_node x y → y ≡ Some m
pair_met o v x y n m e f d h =
    let met : same_node o v ≡ true = rw (e, f) (eq-eqb n n refl) in
    pair_to x y m d (sym h ∙ met)

module _ (ps : List Path) (a b : Reader) (in_a : IsInside ps a) (e : view ps a ≡ view ps b) where
  types_at : (p : Path) (n : ℕ) → a.node_at p ≡ Some n → view_type a (a.node_at p) ≡ view_type b (b.node_at p)
  types_at p n h = mapped_at (λ q. view_type a (a.node_at q)) (λ q. view_type b (b.node_at q)) ps (ap (λ (m : Structure). m.types) e) (in_a p n h)

  met : (p : Path) (n : ℕ) → a.node_at p ≡ Some n → (m : ℕ) × (b.node_at p ≡ Some m) × (a.type_of n ≡ b.type_of m)
  met p n h = node_met a b (a.node_at p) (b.node_at p) n h (types_at p n h)

  there_too : (p : Path) (n : ℕ) → a.node_at p ≡ Some n → (m : ℕ) × (b.node_at p ≡ Some m)
  there_too p n h = let z = met p n h in (z.0, z.1)

  types_too : (p : Path) (n m : ℕ) → a.node_at p ≡ Some n → b.node_at p ≡ Some m → a.type_of n ≡ b.type_of m
  types_too p n m h k =
      let z = met p n h in
      let is : z.0 ≡ m = let x = z.1 in cc in
      subst (λ x. a.type_of n ≡ b.type_of x) is z.2

  equal_too : (p q : Path) (n m : ℕ) → a.node_at p ≡ Some n → a.node_at q ≡ Some n → b.node_at p ≡ Some m → b.node_at q ≡ Some m
  equal_too p q n m h k l =
      pair_met (a.node_at p) (a.node_at q) (b.node_at p) (b.node_at q) n m h k l
      (mapped_at (λ (pq : Path × Path). same_node (a.node_at pq.0) (a.node_at pq.1)) (λ (pq : Path × Path). same_node (b.node_at pq.0) (b.node_at pq.1)) (pairs_of ps)
      (ap (λ (m : Structure). m.equal) e) (has_pair (in_a p n h) (in_a q n k)))

pub one_structure : (ps : List Path) (a b : Reader) → IsInside ps a → IsInside ps b → view ps a ≡ view ps b → IsSameStructure a b
one_structure ps a b in_a in_b e = record {
  there = there_too ps a b in_a e;
  there_back = there_too ps b a in_b (sym e);
  equal = equal_too ps a b in_a e;
  equal_back = equal_too ps b a in_b (sym e);
  types = types_too ps a b in_a e;
}

same_graph : (g h : GraphMap) → IsGraph g → IsGraph h → IsSameStructure (reader_of g) (reader_of h) → g ≡ h
same_graph g h a b is =
    let one = one_graph g h a b is in
    graph_of_parts g h (ext_get_or 0 g.types h.types one.0 (λ k l. (one.1 k l).0))
    (ext_get_or [] g.arcs h.arcs (a.even ∙ one.0 ∙ sym b.even) (λ k l. (one.1 k (let e = a.even in omega (arith, l))).1))

same_text : (types : TypeTable) (feats : List (List ℕ)) (g h : GraphMap) (x y : List ℕ) → IsSameStructure (reader_of g) (reader_of h) → IsGraphText types feats g x → IsGraphText types feats h y → x ≡ y
same_text types feats g h x y is a b = a.2 ∙ ap (text_of types feats) (lists_are_one (reader_of g) (reader_of h) a.0 b.0 is a.1 b.1) ∙ sym b.2

class_of_parts : (c d : Class Structure Span) → c.cover.from ≡ d.cover.from → c.cover.to ≡ d.cover.to → c.level ≡ d.level → c.shape ≡ d.shape → c ≡ d
class_of_parts c d from to level shape = λ i. record { cover = record { from = from i; to = to i }; level = level i; shape = shape i }

pub one_class : (g : Signs) (types : TypeTable) (feats : List (List ℕ)) (k l : Keyed) → IsKeyed g types feats k → IsKeyed g types feats l → k.key ≡ l.key → k.class ≡ l.class
one_class g types feats k l a b e =
    class_of_parts k.class l.class (sym a.from ∙ ap (λ (x : Key). x.from) e ∙ b.from) (sym a.to ∙ ap (λ (x : Key). x.to) e ∙ b.to) (sym a.level ∙ ap (λ (x : Key). x.level) e ∙ b.level)
    (sym a.graph.same ∙ ap (λ (x : Key). view g.paths (reader_of x.graph)) e ∙ b.graph.same)

pub one_key : (g : Signs) (types : TypeTable) (feats : List (List ℕ)) (k l : Keyed) → IsKeyed g types feats k → IsKeyed g types feats l → k.class ≡ l.class → k.key ≡ l.key
one_key g types feats k l a b e =
    let is = one_structure g.paths (reader_of k.key.graph) (reader_of l.key.graph) a.graph.inside b.graph.inside (a.graph.same ∙ ap (λ (c : Class Structure Span). c.shape) e ∙ sym b.graph.same) in
    key_of_parts k.key l.key (a.from ∙ ap (λ (c : Class Structure Span). c.cover.from) e ∙ sym b.from) (a.to ∙ ap (λ (c : Class Structure Span). c.cover.to) e ∙ sym b.to)
    (a.level ∙ ap (λ (c : Class Structure Span). c.level) e ∙ sym b.level) (same_text types feats k.key.graph l.key.graph k.key.text l.key.text is a.text b.text)
    (same_graph k.key.graph l.key.graph a.graph.is_graph b.graph.is_graph is)
