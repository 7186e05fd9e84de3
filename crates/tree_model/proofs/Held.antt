-- A reading stands in a group of the forest.
use Rattle.std.specs.Prelude.{◌≡◌, ℕ, Some, true, List, [], ◌∷◌, map, length, refl}
use Rattle.std.proofs.Common.{ap, subst, ◌∙◌, arith}
use Rattle.chart_model.specs.Calculus.{Calculus}
use Rattle.chart_model.specs.At.{At, from_get}
use Rattle.chart_model.specs.Chart.{Chart, Leaf, Limits, Row, is_free}
use Rattle.chart_model.specs.Classes.{Class, class_covers, class_shapes, class_level}
use Rattle.chart_model.specs.Grown.{Tree, leaf_tree, phrase, Trees, no_trees, more_trees, Grown, grown_leaf, grown_rule, AllGrown, no_grown, more_grown, HoldsTrees}
use Rattle.derivation.specs.Trees as derived
use Rattle.tree_model.specs.Readings.{Wholes, IsReading, reading_leaf, reading_phrase, AreReadings, no_readings, more_readings}
use Rattle.tree_model.specs.Forest.{Agree}
use Rattle.tree_model.specs.Lists.{IsFullOf, full_leaf, full_phrase, AreFullOf, no_full, more_full, IsIn}

module _ {M C F V : Type 0} (k : Calculus M C) (full : ℕ → List F → F → Type 0) (agrees : M → F → Type 0) (w : Wholes V C) (limits : Limits) (leaves : List (Leaf M C)) (agree : Agree k full agrees w leaves) where
  abbrev seen_class : Class V C → Class F C
  seen_class c = record { cover = c.cover; level = c.level; shape = agree.seen c.shape }

  seen_covers : (cs : List (Class V C)) → class_covers (map seen_class cs) ≡ class_covers cs
  seen_covers [] = refl
  seen_covers (c ∷ cs) = ap (λ zs. c.cover ∷ zs) (seen_covers cs)

  seen_shapes : (cs : List (Class V C)) → class_shapes (map seen_class cs) ≡ map agree.seen (class_shapes cs)
  seen_shapes [] = refl
  seen_shapes (c ∷ cs) = ap (λ zs. agree.seen c.shape ∷ zs) (seen_shapes cs)

  seen_level : (cs : List (Class V C)) → class_level (map seen_class cs) ≡ class_level cs
  seen_level [] = refl
  seen_level (c ∷ []) = refl
  seen_level (c ∷ d ∷ cs) = refl

  seen_length : (cs : List (Class V C)) → length (map seen_class cs) ≡ length cs
  seen_length [] = refl
  seen_length (c ∷ cs) = omega (arith, seen_length cs)

  abbrev IsGrown : Tree → Class F C → Type 0
  IsGrown t c = Grown k full (λ leaf f. agrees leaf.shape f) limits leaves t c

  record Grows (d : derived.Derivation) (c : Class V C) : Type 0 where
    tree : Tree
    grown : IsGrown tree (seen_class c)
    full_of : IsFullOf w leaves tree d c.shape

  record AllGrow (ds : derived.Daughters) (cs : List (Class V C)) : Type 0 where
    trees : Trees
    grown : AllGrown k full (λ leaf f. agrees leaf.shape f) limits leaves trees (map seen_class cs)
    full_of : AreFullOf w leaves trees ds (class_shapes cs)

  mutual
    grows : {d : derived.Derivation} {c : Class V C} → IsReading k w limits leaves d c → Grows d c
    grows (reading_leaf l leaf at) = record { tree = leaf_tree l; grown = grown_leaf l leaf (agree.seen (w.leaf_full leaf.name)) at (agree.leaf_agrees l leaf at); full_of = full_leaf l leaf at }
    grows (reading_phrase rule ts ds c v r_ok len rs cov f) =
        let all = all_grow rs in
        let g : IsGrown (phrase rule all.trees) (record { cover = c; level = class_level (map seen_class ds); shape = agree.seen v }) = grown_rule rule all.trees (map seen_class ds) c (agree.seen v) r_ok (seen_length ds ∙ len) all.grown (rw (seen_covers ds) cov) (rw (seen_shapes ds) (agree.keeps rule (class_shapes ds) v f)) in
        record {
          tree = phrase rule all.trees;
          grown = subst (λ l. IsGrown (phrase rule all.trees) (record { cover = c; level = l; shape = agree.seen v })) (seen_level ds) g;
          full_of = full_phrase rule all.trees ts (class_shapes ds) v all.full_of f;
        }

    all_grow : {ds : derived.Daughters} {cs : List (Class V C)} → AreReadings k w limits leaves ds cs → AllGrow ds cs
    all_grow no_readings = record { trees = no_trees; grown = no_grown; full_of = no_full }
    all_grow (more_readings t ts d ds r low rs) =
        let one = grows r in
        let rest = all_grow rs in
        record {
          trees = more_trees one.tree rest.trees;
          grown = more_grown one.tree rest.trees (seen_class d) (map seen_class ds) one.grown low rest.grown;
          full_of = more_full one.tree rest.trees t ts d.shape (class_shapes ds) one.full_of rest.full_of;
        }

  module _ (ch : Chart M C) (holds : HoldsTrees k full agrees limits leaves ch) where
    -- where a reading stands
    pub record Held (d : derived.Derivation) (c : Class V C) : Type 0 where
      pub host : ℕ
      pub row : Row M C
      pub shape : M
      pub at : At ch.rows host row
      pub shape_is : row.shape ≡ Some shape
      pub free : is_free ch.into host ≡ true
      pub is_in : IsIn w leaves ch host (record { tree = d; full = c.shape })
      pub cover : row.cover ≡ c.cover

    pub held : {d : derived.Derivation} {c : Class V C} → IsReading k w limits leaves d c → Held d c
    held {c = c} r =
        let g = grows r in
        let h = holds g.tree (seen_class c) g.grown in
        record {
          host = h.host;
          row = h.row;
          shape = h.shape;
          at = from_get ch.rows h.host h.row h.at;
          shape_is = h.shape_is;
          free = h.free;
          is_in = record { tree = g.tree; row = h.number; stands = h.stands; full = g.full_of };
          cover = h.cover;
        }
