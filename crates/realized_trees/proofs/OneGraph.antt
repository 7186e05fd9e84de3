-- A graph is told by the structure that it is on the paths that may be.
use Rattle.std.specs.Prelude.{ℕ, ◌≡◌, ◌<◌, true, Option, Some, None, List, [], ◌∷◌, ◌++◌, length, map}
use Rattle.std.proofs.Common.{refl, sym, ◌∙◌, ap, arith, eq-eqb}
use Rattle.std.proofs.lemmas.Bool.{eqb-true}
use Rattle.std.proofs.lemmas.List.{ext_get_or}
use Rattle.fs_model.specs.Claims.{Path, Has, here, there}
use Rattle.fs_model.specs.Sources.{Reader, IsSameStructure}
use Rattle.fs_graph.specs.GraphMap.{GraphMap, IsGraph, IsSameNode, reader_of}
use Rattle.fs_graph.proofs.SameLemmas.{one_graph}
use Rattle.tree_model.specs.Structures.{Structure, pairs_from, pairs_of}
use Rattle.tree_model.specs.Views.{view_type, same_node, view, IsInside}
use Rattle.book_signs.specs.Trees.{SignTree, signs_of}
use Rattle.rule_trees.specs.Mothers.{graph_view, IsShortIn}
use Rattle.rule_trees.proofs.MakingLemmas.{inside}

same_nodes : (g h : GraphMap) → IsGraph g → IsGraph h → length g.types ≡ length h.types → ((n : ℕ) → n < length g.types → IsSameNode g h n) → g ≡ h
same_nodes g h a b size nodes =
    let types : g.types ≡ h.types = ext_get_or 0 g.types h.types size (λ k l. (nodes k l).0) in
    let arcs : g.arcs ≡ h.arcs = ext_get_or [] g.arcs h.arcs (a.even ∙ size ∙ sym b.even) (λ k l. (nodes k (let e = a.even in omega arith)).1) in
    ap (λ z. record { types = z; arcs = g.arcs }) types ∙ ap (λ z. record { types = h.types; arcs = z }) arcs

-- functions that map a list alike are alike on what it has
mapped_alike : {A B : Type 0} (f h : A → B) (xs : List A) → map f xs ≡ map h xs → (x : A) → Has x xs → f x ≡ h x
mapped_alike f h [] e x k = elim k [ ]
mapped_alike f h (y ∷ xs) e _ here = let z : f y ≡ h y = cc in z
mapped_alike f h (y ∷ xs) e x (there k) = mapped_alike f h xs (let z : map f xs ≡ map h xs = cc in z) x k

has_left : {A : Type 0} {x : A} {xs : List A} (ys : List A) → Has x xs → Has x (xs ++ ys)
has_left ys here = here
has_left ys (there k) = there (has_left ys k)

has_right : {A : Type 0} {x : A} (xs : List A) {ys : List A} → Has x ys → Has x (xs ++ ys)
has_right [] k = k
has_right (y ∷ xs) k = there (has_right xs k)

paired : {p q : Path} {qs : List Path} → Has q qs → Has {X = Path × Path} (p, q) (map (λ r. (p, r)) qs)
paired here = here
paired (there k) = there (paired k)

pub has_pair : {p q : Path} (ps qs : List Path) → Has p ps → Has q qs → Has {X = Path × Path} (p, q) (pairs_from ps qs)
has_pair [] qs a b = elim a [ ]
has_pair (r ∷ ps) qs here b = has_left (pairs_from ps qs) (paired b)
has_pair (r ∷ ps) qs (there a) b = has_right (map (λ s. (r, s)) qs) (has_pair ps qs a b)

module _ (ps : List Path) (a b : Reader) (ia : IsInside ps a) (ib : IsInside ps b) (e : view ps a ≡ view ps b) where
  types_alike : (p : Path) → Has p ps → view_type a (a.node_at p) ≡ view_type b (b.node_at p)
  types_alike p k = mapped_alike (λ q. view_type a (a.node_at q)) (λ q. view_type b (b.node_at q)) ps (ap (λ (s : Structure). s.types) e) p k

  equal_alike : (p q : Path) → Has p ps → Has q ps → same_node (a.node_at p) (a.node_at q) ≡ same_node (b.node_at p) (b.node_at q)
  equal_alike p q k l = mapped_alike (λ (pq : Path × Path). same_node (a.node_at pq.0) (a.node_at pq.1)) (λ (pq : Path × Path). same_node (b.node_at pq.0) (b.node_at pq.1)) (pairs_of ps) (ap (λ (s : Structure). s.equal) e) (p, q) (has_pair ps ps k l)

there_in : (a b : Reader) (p : Path) (n : ℕ) → a.node_at p ≡ Some n → view_type a (a.node_at p) ≡ view_type b (b.node_at p) → (m : ℕ) × (b.node_at p ≡ Some m)
there_in a b p n at e = by_node (b.node_at p) refl
  where
    by_node : (o : Option ℕ) → b.node_at p ≡ o → (m : ℕ) × (b.node_at p ≡ Some m)
    by_node None q = absurd (let z : Some (a.type_of n) ≡ None = sym (ap (view_type a) at) ∙ e ∙ ap (view_type b) q in cc)
    by_node (Some m) q = (m, q)

node_same : (x y : ℕ) → x ≡ y → same_node (Some x) (Some y) ≡ true
node_same x y e = eq-eqb x y e

equal_in : (a b : Reader) (p q : Path) (n m : ℕ) → a.node_at p ≡ Some n → a.node_at q ≡ Some n → same_node (a.node_at p) (a.node_at q) ≡ same_node (b.node_at p) (b.node_at q) → b.node_at p ≡ Some m → (k : ℕ) → b.node_at q ≡ Some k → b.node_at q ≡ Some m
equal_in a b p q n m ap_ aq e bp k bq =
    let one : same_node (Some n) (Some n) ≡ true = node_same n n refl in
    let here_ : same_node (a.node_at p) (a.node_at q) ≡ true = ap (λ o. same_node o (a.node_at q)) ap_ ∙ ap (same_node (Some n)) aq ∙ one in
    let there_ : same_node (Some m) (Some k) ≡ true = sym (ap (λ o. same_node o (b.node_at q)) bp ∙ ap (same_node (Some m)) bq) ∙ sym e ∙ here_ in
    bq ∙ ap Some (sym (eqb-true m k there_))

type_in : (a b : Reader) (p : Path) (n m : ℕ) → a.node_at p ≡ Some n → b.node_at p ≡ Some m → view_type a (a.node_at p) ≡ view_type b (b.node_at p) → a.type_of n ≡ b.type_of m
type_in a b p n m x y e = let z : Some (a.type_of n) ≡ Some (b.type_of m) = sym (ap (view_type a) x) ∙ e ∙ ap (view_type b) y in cc

readers_alike : (ps : List Path) (a b : Reader) → IsInside ps a → IsInside ps b → view ps a ≡ view ps b → IsSameStructure a b
readers_alike ps a b ia ib e = record {
  there = λ p n h. there_in a b p n h (types_alike ps a b ia ib e p (ia p n h));
  there_back = λ p n h. there_in b a p n h (types_alike ps b a ib ia (sym e) p (ib p n h));
  equal = λ p q n m x y z. (let k = there_in a b q n y (types_alike ps a b ia ib e q (ia q n y)) in
      equal_in a b p q n m x y (equal_alike ps a b ia ib e p q (ia p n x) (ia q n y)) z k.0 k.1);
  equal_back = λ p q n m x y z. (let k = there_in b a q n y (types_alike ps b a ib ia (sym e) q (ib q n y)) in
      equal_in b a p q n m x y (equal_alike ps b a ib ia (sym e) p q (ib p n x) (ib q n y)) z k.0 k.1);
  types = λ p n m x y. type_in a b p n m x y (types_alike ps a b ia ib e p (ia p n x));
}

pub graph_told : (t : SignTree) (a b : GraphMap) → IsGraph a → IsGraph b → IsShortIn t a → IsShortIn t b → graph_view t a ≡ graph_view t b → a ≡ b
graph_told t a b ga gb sa sb e =
    let same = one_graph a b ga gb (readers_alike (signs_of t).paths (reader_of a) (reader_of b) (inside t a sa) (inside t b sb) e) in
    same_nodes a b ga gb same.0 same.1
