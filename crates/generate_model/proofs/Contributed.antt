-- A closure says one list of predicates, whatever graph of it is read.
use Rattle.std.specs.Prelude.{ℕ, ◌≡◌, ◌<◌, Option, Some, None, Ok, Err, List, [], ◌∷◌, ◌++◌, length, slice_get}
use Rattle.std.proofs.Common.{refl, sym, ◌∙◌, ap, subst}
use Rattle.fs_model.specs.Claims.{Path, Claim, System, IsOrder}
use Rattle.fs_model.specs.Sources.{Reader, IsSameStructure}
use Rattle.fs_model.specs.Numbering.{IsSameTable}
use Rattle.fs_model.proofs.NumberingLemmas.{numbers_are_one}
use Rattle.fs_graph.specs.GraphMap.{GraphMap, IsGraph, reader_of, table_of, type_at}
use Rattle.type_hierarchy.specs.Table.{TypeTable}
use Rattle.tree_model.specs.Views.{Shows}
use Rattle.tree_model.specs.Mothers.{Meant}
use Rattle.tree_model.specs.Signs.{Instance, rule_system}
use Rattle.mrs_places.specs.Paths.{Feature, Paths}
use Rattle.mrs_places.specs.Looking.{Sought, Place, Walks, at_last, at_null, is_open, no_rest, goes_on, and_more, step, arc_by, below, follow}
use Rattle.generate_model.specs.Bags.{Word}
use Rattle.generate_model.specs.Contributing.{IsList, pred_node, and_type, pred_types, PredTypes, listed, unlisted, Predicates}
use Rattle.generate_model.proofs.OneList.{predicates_are_one}
use Rattle.generate_model.specs.Contributions.{Input, IsGraphOf, SaysAt, GivesOf}
use Rattle.generate_model.specs.Laws.{InputsAreTold}

-- graphs of one closure are one structure
module _ (s : System) (o : IsOrder s) (claims : Claim → Type 0) where
  some_is : {r : Option ℕ} (n m : ℕ) → r ≡ Some n → r ≡ Some m → n ≡ m
  some_is n m e f = let z : Some n ≡ Some m = sym e ∙ f in cc

  equal_there : (a b : Reader) → Shows s claims a → Shows s claims b → (p q : Path) (n m : ℕ) → a.node_at p ≡ Some n → a.node_at q ≡ Some n → b.node_at p ≡ Some m → b.node_at q ≡ Some m
  equal_there a b x y p q n m e f h =
      let z = (y.equalities p q).0 ((x.equalities p q).1 (n, e, f)) in
      subst (λ k. b.node_at q ≡ Some k) (some_is z.0 m z.1 h) z.2

  same_type : (a b : Reader) → Shows s claims a → Shows s claims b → (p : Path) (n m : ℕ) → a.node_at p ≡ Some n → b.node_at p ≡ Some m → a.type_of n ≡ b.type_of m
  same_type a b x y p n m e f = o.antisymmetric (a.type_of n) (b.type_of m) (x.types_above p n (b.type_of m) e (y.types_there p m f)) (y.types_above p m (a.type_of n) f (x.types_there p n e))

  one_structure : (a b : Reader) → Shows s claims a → Shows s claims b → IsSameStructure a b
  one_structure a b x y = record {
    there = λ p n e. (y.paths p).0 ((x.paths p).1 (n, e));
    there_back = λ p n e. (x.paths p).0 ((y.paths p).1 (n, e));
    equal = equal_there a b x y;
    equal_back = equal_there b a y x;
    types = same_type a b x y;
  }

  same_table : (a b : GraphMap) → IsGraphOf s claims a → IsGraphOf s claims b → IsSameTable (table_of a) (table_of b)
  same_table a b x y =
      numbers_are_one (table_of a) (table_of b) x.graph_is.least y.graph_is.least x.graph_is.numbered y.graph_is.numbered (one_structure (reader_of a) (reader_of b) x.shows y.shows)

-- what is read of one graph is read of another with the same nodes, types and arcs
module _ (a b : GraphMap) (is : IsGraph a) (same : IsSameTable (table_of a) (table_of b)) (types : TypeTable) (p : Paths) where
  abbrev In : ℕ → Type 0
  In n = n < length a.types

  arc_same : (n : ℕ) (f : Option ℕ) → In n → arc_by a n f ≡ arc_by b n f
  arc_same n None lt = refl
  arc_same n (Some f) lt = same.arcs n f lt

  arc_in : (n m : ℕ) (f : Option ℕ) → In n → arc_by a n f ≡ Some m → In m
  arc_in n m None lt e = absurd (cc)
  arc_in n m (Some f) lt e = is.numbered.table.arc_in n f m lt e

  step_same : (n : ℕ) (f : Feature) → In n → step a n f ≡ step b n f
  step_same n f lt = arc_same n f.number lt

  step_in : (n m : ℕ) (f : Feature) → In n → step a n f ≡ Some m → In m
  step_in n m f lt e = arc_in n m f.number lt e

  follow_none : (g : GraphMap) (fs : List Feature) → follow g fs None ≡ None
  follow_none g [] = refl
  follow_none g (f ∷ fs) = refl

  follow_same : (fs : List Feature) (n : ℕ) → In n → follow a fs (Some n) ≡ follow b fs (Some n)
  follow_same [] n lt = refl
  follow_same (f ∷ fs) n lt = by_step (step a n f) refl (λ m h. follow_same fs m h)
    where
      by_step : (o : Option ℕ) → step a n f ≡ o → ((m : ℕ) → In m → follow a fs (Some m) ≡ follow b fs (Some m)) → follow a fs (step a n f) ≡ follow b fs (step b n f)
      by_step None e go = ap (follow a fs) e ∙ follow_none a fs ∙ sym (follow_none b fs) ∙ ap (follow b fs) (sym e ∙ step_same n f lt)
      by_step (Some m) e go = ap (follow a fs) e ∙ go m (step_in n m f lt e) ∙ ap (follow b fs) (sym e ∙ step_same n f lt)

  follow_in : (fs : List Feature) (n m : ℕ) → In n → follow a fs (Some n) ≡ Some m → In m
  follow_in [] n m lt e = let z : n ≡ m = cc in subst In z lt
  follow_in (f ∷ fs) n m lt e = by_step (step a n f) refl (λ k h d. follow_in fs k m h d)
    where
      by_step : (o : Option ℕ) → step a n f ≡ o → ((k : ℕ) → In k → follow a fs (Some k) ≡ Some m → In m) → In m
      by_step None h go = absurd (let z : None ≡ Some m = sym (follow_none a fs) ∙ ap (follow a fs) (sym h) ∙ e in cc)
      by_step (Some k) h go = go k (step_in n k f lt h) (ap (follow a fs) (sym h) ∙ e)

  below_same : (n : ℕ) (t : Option ℕ) → In n → below types (type_at a n) t ≡ below types (type_at b n) t
  below_same n t lt = ap (λ u. below types u t) (same.types n lt)

  walks_same : (last : Option ℕ) (at : Place) (out : Sought (List Place)) → In at.node → Walks a types p last at out → Walks b types p last at out
  walks_same last at _ lt (at_last _ e) = at_last at e
  walks_same last at _ lt (at_null _ e) = at_null at (sym (below_same at.node p.null lt) ∙ e)
  walks_same last at _ lt (is_open _ l n c) = is_open at l (sym (below_same at.node p.null lt) ∙ n) (sym (below_same at.node p.cons lt) ∙ c)
  walks_same last at _ lt (no_rest _ l n c s) = no_rest at l (sym (below_same at.node p.null lt) ∙ n) (sym (below_same at.node p.cons lt) ∙ c) (sym (step_same at.node p.rest lt) ∙ s)
  walks_same last at _ lt (goes_on _ next out l n c s w) =
      goes_on at next out l (sym (below_same at.node p.null lt) ∙ n) (sym (below_same at.node p.cons lt) ∙ c) (sym (step_same at.node p.rest lt) ∙ s)
      (walks_same last (record { node = next; path = at.path ++ p.rest.name ∷ [] }) out (step_in at.node next p.rest lt s) w)

  node_type : (o : Option ℕ) (ts us : List ℕ) → ((n : ℕ) → o ≡ Some n → In n) → ts ≡ us → and_type a o ts ≡ and_type b o us
  node_type None ts us lt e = e
  node_type (Some n) ts us lt e = let t = same.types n (lt n refl) in λ i. t i ∷ e i

  cell_same : (at : Place) (ts us : List ℕ) → In at.node → ts ≡ us → and_type a (pred_node a p at) ts ≡ and_type b (pred_node b p at) us
  cell_same at ts us lt e =
      node_type (pred_node a p at) ts us (λ n f. follow_in (p.first ∷ p.pred ∷ []) at.node n lt f) e ∙ ap (λ o. and_type b o us) (follow_same (p.first ∷ p.pred ∷ []) at.node lt)

  abbrev Gives : List Place → Sought (List Place) → Type 0
  Gives cells out = out ≡ Ok cells

  none_same : (cells : List Place) → Gives cells (Ok []) → pred_types a p cells ≡ pred_types b p cells
  none_same [] e = refl
  none_same (c ∷ cs) e = absurd (cc)

  cells_same : (last : Option ℕ) (at : Place) (out : Sought (List Place)) → In at.node → Walks a types p last at out → (cells : List Place) → out ≡ Ok cells → pred_types a p cells ≡ pred_types b p cells
  cells_same last at _ lt (at_last _ e) cells h = none_same cells h
  cells_same last at _ lt (at_null _ e) cells h = none_same cells h
  cells_same last at _ lt (is_open _ l n c) cells h = absurd (cc)
  cells_same last at _ lt (no_rest _ l n c s) cells h = absurd (cc)
  cells_same last at _ lt (goes_on _ next out l n c s w) cells h =
      by_out out (λ cs e. cells_same last (record { node = next; path = at.path ++ p.rest.name ∷ [] }) out (step_in at.node next p.rest lt s) w cs e) h
    where
      by_out : (more : Sought (List Place)) → ((cs : List Place) → more ≡ Ok cs → pred_types a p cs ≡ pred_types b p cs) → and_more at more ≡ Ok cells → pred_types a p cells ≡ pred_types b p cells
      by_out (Err path) go e = absurd (cc)
      by_out (Ok cs) go e =
          let z : at ∷ cs ≡ cells = cc in
          ap (pred_types a p) (sym z) ∙ cell_same at (pred_types a p cs) (pred_types b p cs) lt (go cs refl) ∙ ap (pred_types b p) z

  module _ (base : List Feature) where
    rels_in : (cells : List Place) (x : IsList a types p base cells) → In x.rels
    rels_in cells x = follow_in (base ++ p.rels ∷ []) 0 x.rels is.numbered.filled x.there

    list_same : (cells : List Place) → IsList a types p base cells → IsList b types p base cells
    list_same cells x =
        let inside = rels_in cells x in
        record {
          rels = x.rels;
          there = sym (follow_same (base ++ p.rels ∷ []) 0 is.numbered.filled) ∙ x.there;
          start = x.start;
          begins = sym (step_same x.rels p.diff_list inside) ∙ x.begins;
          walks = subst (λ o. Walks b types p o (record { node = x.start; path = [] }) (Ok cells)) (step_same x.rels p.diff_last inside)
              (walks_same (step a x.rels p.diff_last) (record { node = x.start; path = [] }) (Ok cells) (step_in x.rels x.start p.diff_list inside x.begins) x.walks);
        }

    pub types_same : (back : (cells : List Place) → IsList b types p base cells → IsList a types p base cells) (ts : List ℕ) → PredTypes a types p base ts → PredTypes b types p base ts
    types_same back ts (listed cells x) =
        let inside = rels_in cells x in
        let e = cells_same (step a x.rels p.diff_last) (record { node = x.start; path = [] }) (Ok cells) (step_in x.rels x.start p.diff_list inside x.begins) x.walks cells refl in
        subst (PredTypes b types p base) (sym e) (listed cells (list_same cells x))
    types_same back ts (unlisted none) = unlisted (λ cells y. none cells (back cells y))

turned : (a b : GraphMap) → IsSameTable (table_of a) (table_of b) → IsSameTable (table_of b) (table_of a)
turned a b s = record { size = sym s.size; types = λ n lt. sym (s.types n (subst (λ k. n < k) (sym s.size) lt)); arcs = λ n f lt. sym (s.arcs n f (subst (λ k. n < k) (sym s.size) lt)) }

module _ (s : System) (o : IsOrder s) (input : Input) (claims : Claim → Type 0) (base : List Feature) where
  pub one_says : (ws vs : List Word) → SaysAt s input claims base ws → SaysAt s input claims base vs → ws ≡ vs
  one_says ws vs x y =
      let same = same_table s o claims x.graph y.graph x.is y.is in
      let back = list_same y.graph x.graph y.is.graph_is (turned x.graph y.graph same) input.types input.paths base in
      let moved : Predicates y.graph input.types input.paths base ws =
      record { by_type = x.says.by_type; types_are = types_same x.graph y.graph x.is.graph_is same input.types input.paths base back x.says.by_type x.says.types_are; named = x.says.named } in
      predicates_are_one y.graph input.types input.paths base ws vs moved y.says

pub inputs_are_told : InputsAreTold
inputs_are_told g o input own owns = record {
  one_says = λ f ws vs x y. one_says g.system o input (Meant (rule_system g) f) input.paths.mrs_path ws vs x y;
  one_gives = λ rule ws vs x y. by_rule (slice_get g.instances rule) ws vs x y;
  owns = owns;
}
  where
    by_rule : (i : Option Instance) (ws vs : List Word) → GivesOf g input i ws → GivesOf g input i vs → ws ≡ vs
    by_rule None ws vs x y = absurd x
    by_rule (Some i) ws vs x y = one_says g.system o input _ input.c_cont_path ws vs x y
