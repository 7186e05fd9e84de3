-- What an entry has, or a rule makes, was made within the bounds of its grammar, and is what its graph is.
use Rattle.std.proofs.Common.{ℕ, ◌≡◌, Bool, true, false, ◌&&◌, List, [], ◌∷◌, Option, map, length, All, refl, sym, ◌∙◌, ap, arith}
use Rattle.std.specs.Prelude.{◌==◌, if◌then◌else◌}
use Rattle.std.proofs.lemmas.Bool.{eqb-true, eq-eqb, and_from}
use Rattle.std.proofs.lemmas.List.Elements.{All-head, All-tail, All-nil, All-cons}
use Rattle.chart_model.specs.Calculus.{Along}
use Rattle.type_hierarchy.specs.Table.{count_of}
use Rattle.fs_model.specs.Claims.{Path, Has, here, there}
use Rattle.fs_graph.specs.GraphMap.{GraphMap}
use Rattle.tree_model.proofs.PathLemmas.{has_path_below}
use Rattle.book_signs.specs.Trees.{SignTree, signs_of}
use Rattle.rule_trees.specs.declared.bounded.BoundedGraph.{BoundedGraph}
use Rattle.rule_trees.specs.Mothers.{IsShortIn, IsMade, made_entry, made_mother, graph_view, view_in, has_bounds, no_structure}
use Rattle.rule_trees.proofs.WithinLemmas.{short_of, views_of}

-- the empty path may be, so a list of types for the paths that may be has a type
none_along : {A B : Type 0} {R : A → B → Type 0} {x : A} {xs : List A} → Has x xs → Along R xs [] → ⊥
none_along here a = elim a [ ]
none_along (there h) a = elim a [ ]

no_types : {R : Path → Option ℕ → Type 0} (t : SignTree) → Along R (signs_of t).paths [] → ⊥
no_types t a = none_along (has_path_below (length t.book.system.introducers) t.book.system.path_limit [] (omega arith) (λ k d l. absurd (omega (arith, l)))) a

not_made : (t : SignTree) → IsMade (signs_of t) no_structure → ⊥
not_made t (made_entry entry is) = no_types t is.structure.types
not_made t (made_mother rule fs is) = no_types t is.1.types

and_split : (a b : Bool) → (a && b) ≡ true → (a ≡ true) × (b ≡ true)
and_split true b e = (refl, e)
and_split false b e = absurd (cc)

-- a structure of these bounds
pub bounds_are : (t : SignTree) (x : BoundedGraph) → x.types ≡ count_of t.book.system.types → x.feats ≡ length t.book.system.introducers → x.limit ≡ t.book.system.path_limit → has_bounds t x ≡ true
bounds_are t x a b c =
    and_from ((x.types == count_of t.book.system.types) && (x.feats == length t.book.system.introducers)) (x.limit == t.book.system.path_limit)
    (and_from (x.types == count_of t.book.system.types) (x.feats == length t.book.system.introducers) (eq-eqb x.types (count_of t.book.system.types) a) (eq-eqb x.feats (length t.book.system.introducers) b))
    (eq-eqb x.limit t.book.system.path_limit c)

bounds_short : (t : SignTree) (x : BoundedGraph) → has_bounds t x ≡ true → IsShortIn t x.plain
bounds_short t x e =
    let s = and_split ((x.types == count_of t.book.system.types) && (x.feats == length t.book.system.introducers)) (x.limit == t.book.system.path_limit) e in
    let r = and_split (x.types == count_of t.book.system.types) (x.feats == length t.book.system.introducers) s.0 in
    short_of t x.types x.feats x.limit x.plain (eqb-true x.types (count_of t.book.system.types) r.0) (eqb-true x.feats (length t.book.system.introducers) r.1) (eqb-true x.limit t.book.system.path_limit s.1) x.within

pub bounds_seen : (t : SignTree) (x : BoundedGraph) → has_bounds t x ≡ true → view_in t x ≡ graph_view t x.plain
unfolding view_in
bounds_seen t x e = ap (λ b. if b then graph_view t x.plain else no_structure) e

-- graphs of one view and the same bounds
pub same_bounds : (t : SignTree) (x y : BoundedGraph) → x.types ≡ y.types → x.feats ≡ y.feats → x.limit ≡ y.limit → graph_view t x.plain ≡ graph_view t y.plain → view_in t x ≡ view_in t y
unfolding view_in
same_bounds t x y a b c e =
    ap (λ v. if has_bounds t x then v else no_structure) e
    ∙ ap (λ n. if (n == count_of t.book.system.types) && (x.feats == length t.book.system.introducers) && (x.limit == t.book.system.path_limit) then graph_view t y.plain else no_structure) a
    ∙ ap (λ n. if (y.types == count_of t.book.system.types) && (n == length t.book.system.introducers) && (x.limit == t.book.system.path_limit) then graph_view t y.plain else no_structure) b
    ∙ ap (λ n. if (y.types == count_of t.book.system.types) && (y.feats == length t.book.system.introducers) && (n == t.book.system.path_limit) then graph_view t y.plain else no_structure) c

made_bounds : (t : SignTree) (x : BoundedGraph) → IsMade (signs_of t) (view_in t x) → has_bounds t x ≡ true
unfolding view_in
made_bounds t x is = by_test (has_bounds t x) is
  where
    by_test : (b : Bool) → IsMade (signs_of t) (if b then graph_view t x.plain else no_structure) → b ≡ true
    by_test true h = refl
    by_test false h = absurd (not_made t h)

pub made_short : (t : SignTree) (x : BoundedGraph) → IsMade (signs_of t) (view_in t x) → IsShortIn t x.plain
made_short t x is = bounds_short t x (made_bounds t x is)

pub made_seen : (t : SignTree) (x : BoundedGraph) → IsMade (signs_of t) (view_in t x) → view_in t x ≡ graph_view t x.plain
made_seen t x is = bounds_seen t x (made_bounds t x is)

-- the same of daughters in a row
module _ {T : Type 0} (t : SignTree) (graph : T → BoundedGraph) where
  abbrev IsOne : T → Type 0
  IsOne f = IsMade (signs_of t) (view_in t (graph f))

  pub all_short : (fs : List T) → All IsOne fs → All (IsShortIn t) (map (λ f. (graph f).plain) fs)
  all_short [] all = All-nil (IsShortIn t)
  all_short (f ∷ fs) all = All-cons (IsShortIn t) (graph f).plain (map (λ f. (graph f).plain) fs) (made_short t (graph f) (All-head IsOne f fs all)) (all_short fs (All-tail IsOne f fs all))

  each_seen : (fs : List T) → All IsOne fs → map (λ f. graph_view t (graph f).plain) fs ≡ map (λ f. view_in t (graph f)) fs
  each_seen [] all = refl
  each_seen (f ∷ fs) all =
      ap (λ v. v ∷ map (λ f. graph_view t (graph f).plain) fs) (sym (made_seen t (graph f) (All-head IsOne f fs all)))
      ∙ ap (λ vs. view_in t (graph f) ∷ vs) (each_seen fs (All-tail IsOne f fs all))

  -- the views of daughters, by their graphs
  pub fulls_seen : (ds : List GraphMap) (fs : List T) → ds ≡ map (λ f. (graph f).plain) fs → All IsOne fs → map (graph_view t) ds ≡ map (λ f. view_in t (graph f)) fs
  fulls_seen ds fs is all = views_of t (λ f. (graph f).plain) ds fs is ∙ each_seen fs all
