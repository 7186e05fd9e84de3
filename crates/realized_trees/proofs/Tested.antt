-- Tests of structures and of daughters.
use Rattle.std.specs.Prelude.{◌≡◌, ◌⊎◌, ◌<◌, All, Bool, true, false, IsTrue, Option, Some, None, List, [], ◌∷◌, map}
use Rattle.std.proofs.Common.{refl, sym, ◌∙◌, ap, subst, inl, inr, Global}
use Rattle.std.proofs.lemmas.List.Elements.{All-head, All-tail, All-nil, All-cons}
use Rattle.std.specs.Arc.{arc_value}
use Rattle.std.specs.declared.sync.Arc.{Arc}
use Rattle.chart_model.specs.Tuples.{on_list}
use Rattle.fs_model.specs.Claims.{Has, here, there}
use Rattle.type_hierarchy.specs.Table.{TypeTable, count_of}
use Rattle.fs_graph.specs.GraphMap.{GraphMap, IsGraph}
use Rattle.tree_model.specs.Structures.{Structure}
use Rattle.mrs_places.specs.Paths.{Paths}
use Rattle.book_signs.specs.Trees.{SignTree}
use Rattle.rule_trees.specs.Mothers.{graph_view, IsShortIn}
use Rattle.forest_unpack.specs.declared.fulls.FullParts.{FullParts}
use Rattle.forest_unpack.specs.Parts.{parts_of}
use Rattle.relation_fit.specs.Lists.{list_seen}
use Rattle.relation_fit.specs.Tests.{has_misfit}
use Rattle.realized_trees.specs.declared.sifting.Sieve.{Sieve}
use Rattle.realized_trees.specs.Sieves.{IsDropped, MayDrop}
use Rattle.realized_trees.specs.Inner.Parts.{HasDropped, of_part}
use Rattle.realized_trees.proofs.OneGraph.{graph_told}

-- each daughter alone, of all of them
module _ {T : Type 0} (P : T → Type 0) where
  one_of : (part : Option (Arc T Global)) (rest : List (Arc T Global)) → All P (map arc_value (on_list part rest)) → All P (of_part part)
  one_of None rest all = All-nil P
  one_of (Some a) rest all = All-cons P (arc_value a) [] (All-head P (arc_value a) (map arc_value rest) all) (All-nil P)

  rest_of : (part : Option (Arc T Global)) (rest : List (Arc T Global)) → All P (map arc_value (on_list part rest)) → All P (map arc_value rest)
  rest_of None rest all = all
  rest_of (Some a) rest all = All-tail P (arc_value a) (map arc_value rest) all

  module _ (ps : FullParts T) (all : All P (parts_of ps)) where
    abbrev behind_c : List (Arc T Global)
    behind_c = on_list ps.d []

    abbrev behind_b : List (Arc T Global)
    behind_b = on_list ps.c behind_c

    abbrev behind_a : List (Arc T Global)
    behind_a = on_list ps.b behind_b

    pub all_a : All P (of_part ps.a)
    all_a = one_of ps.a behind_a all

    pub all_b : All P (of_part ps.b)
    all_b = one_of ps.b behind_b (rest_of ps.a behind_a all)

    pub all_c : All P (of_part ps.c)
    all_c = one_of ps.c behind_c (rest_of ps.b behind_b (rest_of ps.a behind_a all))

    pub all_d : All P (of_part ps.d)
    all_d = one_of ps.d [] (rest_of ps.c behind_c (rest_of ps.b behind_b (rest_of ps.a behind_a all)))

-- what the test asks of a graph
pub typed_in : (t : SignTree) (types : TypeTable) → types ≡ t.book.system.types → (graph other : GraphMap) → graph ≡ other → IsShortIn t other → All (λ u. u < count_of types) graph.types
typed_in t types e graph other g short = subst (λ x. All (λ u. u < count_of types) x.types) (sym g) (subst (λ y. All (λ u. u < count_of y) other.types) (sym e) short.graph_in.types_in)

-- the test of a graph is that of the structure that it is
pub tested : (t : SignTree) (p : Paths) (s : Sieve) (graph : GraphMap) → IsGraph graph → IsShortIn t graph → (b : Bool) → b ≡ has_misfit t.book.system.types graph p s.sought.eps.items (list_seen s.list.now) →
    (IsTrue b → IsDropped t p s (graph_view t graph)) × (IsDropped t p s (graph_view t graph) → IsTrue b)
tested t p s graph is short b e = (
  λ y. record { graph = graph; is = is; short = short; seen = refl; misfit = sym e ∙ y },
  λ d. e ∙ ap (λ x. has_misfit t.book.system.types x p s.sought.eps.items (list_seen s.list.now)) (graph_told t graph d.graph is d.is short d.short (sym d.seen)) ∙ d.misfit,
)

module _ (t : SignTree) (p : Paths) (o : Option Sieve) {T : Type 0} (value : T → Structure) where
  -- a daughter alone
  pub part_none : (part : Option (Arc T Global)) → part ≡ None → (IsTrue false → HasDropped t p o (map value (of_part part))) × (HasDropped t p o (map value (of_part part)) → IsTrue false)
  part_none part e = subst (λ q. (IsTrue false → HasDropped t p o (map value (of_part q))) × (HasDropped t p o (map value (of_part q)) → IsTrue false)) (sym e) (λ y. absurd (let z : false ≡ true = y in cc), λ d. absurd (elim d.1 [ ]))

  part_some : (a : Arc T Global) (b : Bool) → (IsTrue b → MayDrop t p o (value (arc_value a))) × (MayDrop t p o (value (arc_value a)) → IsTrue b) →
      (IsTrue b → HasDropped t p o (map value (of_part (Some a)))) × (HasDropped t p o (map value (of_part (Some a))) → IsTrue b)
  part_some a b h = (λ y. (value (arc_value a), here, h.0 y), λ d. by_place d.0 d.1 d.2)
    where
      by_place : (f : Structure) → Has f (value (arc_value a) ∷ []) → MayDrop t p o f → IsTrue b
      by_place _ here d = h.1 d
      by_place f (there k) d = absurd (elim k [ ])

  pub part_told : (part : Option (Arc T Global)) (a : Arc T Global) → part ≡ Some a → (x : T) → x ≡ arc_value a → (b : Bool) → (IsTrue b → MayDrop t p o (value x)) × (MayDrop t p o (value x) → IsTrue b) →
      (IsTrue b → HasDropped t p o (map value (of_part part))) × (HasDropped t p o (map value (of_part part)) → IsTrue b)
  part_told part a e x q b h =
      subst (λ r. (IsTrue b → HasDropped t p o (map value (of_part r))) × (HasDropped t p o (map value (of_part r)) → IsTrue b)) (sym e)
      (part_some a b (subst (λ y. (IsTrue b → MayDrop t p o (value y)) × (MayDrop t p o (value y) → IsTrue b)) q h))

  -- a daughter and those behind her
  first_dropped : (part : Option (Arc T Global)) (rest : List (Arc T Global)) → HasDropped t p o (map value (of_part part)) → HasDropped t p o (map value (map arc_value (on_list part rest)))
  first_dropped None rest h = absurd (elim h.1 [ ])
  first_dropped (Some a) rest h = by_place h.0 h.1 h.2
    where
      by_place : (f : Structure) → Has f (value (arc_value a) ∷ []) → MayDrop t p o f → HasDropped t p o (map value (map arc_value (on_list (Some a) rest)))
      by_place _ here d = (value (arc_value a), here, d)
      by_place f (there k) d = absurd (elim k [ ])

  later_dropped : (part : Option (Arc T Global)) (rest : List (Arc T Global)) → HasDropped t p o (map value (map arc_value rest)) → HasDropped t p o (map value (map arc_value (on_list part rest)))
  later_dropped None rest h = h
  later_dropped (Some a) rest h = (h.0, there h.1, h.2)

  either_dropped : (part : Option (Arc T Global)) (rest : List (Arc T Global)) → HasDropped t p o (map value (map arc_value (on_list part rest))) → HasDropped t p o (map value (of_part part)) ⊎ HasDropped t p o (map value (map arc_value rest))
  either_dropped None rest h = inr h
  either_dropped (Some a) rest h = by_place h.0 h.1 h.2
    where
      by_place : (f : Structure) → Has f (value (arc_value a) ∷ map value (map arc_value rest)) → MayDrop t p o f → HasDropped t p o (value (arc_value a) ∷ []) ⊎ HasDropped t p o (map value (map arc_value rest))
      by_place _ here d = inl (value (arc_value a), here, d)
      by_place f (there k) d = inr (f, k, d)

  module _ (ps : FullParts T) where
    abbrev Dropped : Type 0
    Dropped = HasDropped t p o (map value (parts_of ps))

    abbrev rest_d : List (Arc T Global)
    rest_d = on_list ps.d []

    abbrev rest_c : List (Arc T Global)
    rest_c = on_list ps.c rest_d

    abbrev rest_b : List (Arc T Global)
    rest_b = on_list ps.b rest_c

    pub dropped_a : HasDropped t p o (map value (of_part ps.a)) → Dropped
    dropped_a h = first_dropped ps.a rest_b h

    pub dropped_b : HasDropped t p o (map value (of_part ps.b)) → Dropped
    dropped_b h = later_dropped ps.a rest_b (first_dropped ps.b rest_c h)

    pub dropped_c : HasDropped t p o (map value (of_part ps.c)) → Dropped
    dropped_c h = later_dropped ps.a rest_b (later_dropped ps.b rest_c (first_dropped ps.c rest_d h))

    pub dropped_d : HasDropped t p o (map value (of_part ps.d)) → Dropped
    dropped_d h = later_dropped ps.a rest_b (later_dropped ps.b rest_c (later_dropped ps.c rest_d (first_dropped ps.d [] h)))

    -- and where no daughter before her is, it is the last
    pub last_dropped : (HasDropped t p o (map value (of_part ps.a)) → ⊥) → (HasDropped t p o (map value (of_part ps.b)) → ⊥) → (HasDropped t p o (map value (of_part ps.c)) → ⊥) → Dropped → HasDropped t p o (map value (of_part ps.d))
    last_dropped na nb nc h = by_a (either_dropped ps.a rest_b h)
      where
        by_d : HasDropped t p o (map value (of_part ps.d)) ⊎ HasDropped t p o [] → HasDropped t p o (map value (of_part ps.d))
        by_d (inl x) = x
        by_d (inr x) = absurd (elim x.1 [ ])

        by_c : HasDropped t p o (map value (of_part ps.c)) ⊎ HasDropped t p o (map value (map arc_value rest_d)) → HasDropped t p o (map value (of_part ps.d))
        by_c (inl x) = absurd (nc x)
        by_c (inr x) = by_d (either_dropped ps.d [] x)

        by_b : HasDropped t p o (map value (of_part ps.b)) ⊎ HasDropped t p o (map value (map arc_value rest_c)) → HasDropped t p o (map value (of_part ps.d))
        by_b (inl x) = absurd (nb x)
        by_b (inr x) = by_c (either_dropped ps.c rest_d x)

        by_a : HasDropped t p o (map value (of_part ps.a)) ⊎ HasDropped t p o (map value (map arc_value rest_b)) → HasDropped t p o (map value (of_part ps.d))
        by_a (inl x) = absurd (na x)
        by_a (inr x) = by_b (either_dropped ps.b rest_c x)
