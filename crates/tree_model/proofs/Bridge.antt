-- Readings over the leaves are the forest's trees.
use Rattle.std.specs.Prelude.{ℕ, ◌≡◌, ◌↔◌, ◌<◌, slice_index_or, List, [], ◌∷◌, length, slice_get}
use Rattle.std.proofs.Common.{refl, sym, ◌∙◌, ap, subst, arith, zero, suc}
use Rattle.std.specs.List.{Contains}
use Rattle.fs_model.specs.Claims.{IsOrder, Has, here, there}
use Rattle.chart_model.specs.At.{At, to_get}
use Rattle.chart_model.specs.Chart as chart
use Rattle.chart_model.specs.Classes.{Class}
use Rattle.chart_model.specs.Grown as forest
use Rattle.tree_model.specs.Readings as readings
use Rattle.derivation.specs.Trees.{Derivation, Daughters, phrase, first}
use Rattle.tree_model.specs.Structures.{Structure}
use Rattle.tree_model.specs.Laws.{rules_full}
use Rattle.tree_model.specs.Signs.{Signs, rule_system, placed_rules, place_at}
use Rattle.tree_model.specs.Items.{Item, IsItem, IsWanted, LeafTree, AreLeaves, Limits, calculus, leaves_from, chart_limits, LexicalDepth, ByUnaryChain, ByEdges, Readings, Trees, AreExactly, AreMoreThan}
use Rattle.tree_model.specs.Forests.{leaf_at, full_at, derived, derived_all, IsOwn, Grown, IsUnpacked, wholes, IsForest, AnswersAreRight}
use Rattle.tree_model.proofs.Places.{leaf_from}
use Rattle.tree_model.proofs.Joint.{forests_are_wanted}

module _ {C : Type 0} (g : Signs) (item : Item C) (limits : Limits) (ls : List (LeafTree C)) where
  abbrev Reads : Derivation → Class Structure C → Type 0
  Reads = readings.IsReading (calculus g item) (wholes g item limits ls) (chart_limits limits) (leaves_from 0 ls)

  abbrev AllRead : Daughters → List (Class Structure C) → Type 0
  AllRead = readings.AreReadings (calculus g item) (wholes g item limits ls) (chart_limits limits) (leaves_from 0 ls)

  abbrev AllGrown : forest.Trees → List (Class Structure C) → Type 0
  AllGrown = forest.AllGrown (calculus g item) (rules_full (rule_system g)) (IsOwn ls) (chart_limits limits) (leaves_from 0 ls)

  name_is : (l : ℕ) (leaf : chart.Leaf Structure C) → At (leaves_from 0 ls) l leaf → leaf.name ≡ l
  name_is l leaf at = let z = leaf_from 0 ls l leaf at in ap (λ (x : chart.Leaf Structure C). x.name) z.2 ∙ omega arith

  mutual
    reads : {t : forest.Tree} {c : Class Structure C} → Grown g item limits ls t c → Reads (derived g ls t) c
    reads (forest.grown_leaf l leaf f at own) =
        let full : full_at (slice_get ls leaf.name) ≡ f = ap full_at (to_get own.1) ∙ own.2 in
        let tree : leaf_at (slice_get ls leaf.name) ≡ leaf_at (slice_get ls l) = ap (λ n. leaf_at (slice_get ls n)) (name_is l leaf at) in
        subst (λ x. Reads (leaf_at (slice_get ls l)) (record { cover = leaf.cover; level = 0; shape = x })) full
        (subst (λ x. Reads x (record { cover = leaf.cover; level = 0; shape = full_at (slice_get ls leaf.name) })) tree (readings.reading_leaf l leaf at))
    reads (forest.grown_rule rule ts ds c f below arity all covers full) =
        readings.reading_phrase rule (derived_all g ls ts) ds c f below arity (all_read all) covers full

    all_read : {ts : forest.Trees} {cs : List (Class Structure C)} → AllGrown ts cs → AllRead (derived_all g ls ts) cs
    all_read (forest.no_grown) = readings.no_readings
    all_read (forest.more_grown t ts d ds h l all) = readings.more_readings (derived g ls t) (derived_all g ls ts) d ds (reads h) l (all_read all)

  record Grows (t : Derivation) (c : Class Structure C) : Type 0 where
    tree : forest.Tree
    is : derived g ls tree ≡ t
    grown : Grown g item limits ls tree c

  record AllGrow (ts : Daughters) (cs : List (Class Structure C)) : Type 0 where
    trees : forest.Trees
    is : derived_all g ls trees ≡ ts
    grown : AllGrown trees cs

  mutual
    grows : {t : Derivation} {c : Class Structure C} → Reads t c → Grows t c
    grows (readings.reading_leaf l leaf at) =
        let z = leaf_from 0 ls l leaf at in
        let name = name_is l leaf at in
        record {
          tree = forest.leaf_tree l;
          is = ap (λ n. leaf_at (slice_get ls n)) (sym name);
          grown = forest.grown_leaf l leaf (full_at (slice_get ls leaf.name)) at
              (z.0, subst (λ n. At ls n z.0) (sym name) z.1, sym (ap (λ n. full_at (slice_get ls n)) name ∙ ap full_at (to_get z.1)));
        }
    grows (readings.reading_phrase rule ts ds c f below arity all covers full) =
        let z = all_grow all in
        record {
          tree = forest.phrase rule z.trees;
          is = ap (phrase (place_at (slice_get (placed_rules g) rule))) z.is;
          grown = forest.grown_rule rule z.trees ds c f below arity z.grown covers full;
        }

    all_grow : {ts : Daughters} {cs : List (Class Structure C)} → AllRead ts cs → AllGrow ts cs
    all_grow (readings.no_readings) = record { trees = forest.no_trees; is = refl; grown = forest.no_grown }
    all_grow (readings.more_readings t ts d ds h l all) =
        let z = grows h in
        let zs = all_grow all in
        record {
          trees = forest.more_trees z.tree zs.trees;
          is = λ i. first (z.is i) (zs.is i);
          grown = forest.more_grown z.tree zs.trees d ds z.grown l zs.grown;
        }

  accepts : (t : Derivation) → readings.IsAccepted (calculus g item) (wholes g item limits ls) (chart_limits limits) (leaves_from 0 ls) t → IsUnpacked g item limits ls t
  accepts t a = let z = grows a.reading in record { tree = z.tree; class = a.class; grown = z.grown; accepted = a.accepted; is = z.is }

  accepted : (t : Derivation) → IsUnpacked g item limits ls t → readings.IsAccepted (calculus g item) (wholes g item limits ls) (chart_limits limits) (leaves_from 0 ls) t
  accepted t u = record { class = u.class; reading = subst (λ x. Reads x u.class) u.is (reads u.grown); accepted = u.accepted }

pub readings_are_wanted : {C : Type 0} (item : Item C) (g : Signs) → IsOrder g.system → IsItem item → (limits : Limits) (ls : List (LeafTree C)) → AreLeaves g item ls →
    IsForest g item limits ls → (t : Derivation) → readings.IsAccepted (calculus g item) (wholes g item limits ls) (chart_limits limits) (leaves_from 0 ls) t ↔ IsWanted g item t
readings_are_wanted item g o good limits ls leaves f t =
    let h = forests_are_wanted item g o good limits ls leaves f t in
    (λ a. h.0 (accepts g item limits ls t a), λ l. accepted g item limits ls t (h.1 l))

contains_of : {x : Derivation} {xs : List Derivation} → Has x xs → Contains xs x
contains_of here = (0, omega arith, refl)
contains_of (there h) = let z = contains_of h in (suc z.0, omega (arith, z.1), z.2)

has_of : (x : Derivation) (xs : List Derivation) (k : ℕ) → k < length xs → slice_index_or xs k x ≡ x → Has x xs
has_of x [] k l e = absurd (omega (arith, l))
has_of x (y ∷ xs) zero l e = subst (λ z. Has z (y ∷ xs)) e here
has_of x (y ∷ xs) (suc k) l e = there (has_of x xs k (omega (arith, l)) e)

module _ {C : Type 0} (item : Item C) (g : Signs) (o : IsOrder g.system) (good : IsItem item) (limits : Limits) (ls : List (LeafTree C)) (leaves : AreLeaves g item ls) where
  exactly_by : IsForest g item limits ls → (ts : List Derivation) → readings.AreAllAccepted (calculus g item) (wholes g item limits ls) (chart_limits limits) (leaves_from 0 ls) ts → AreExactly (IsWanted g item) ts
  exactly_by f ts x = record {
    ordered = x.in_order;
    each = λ t h. (readings_are_wanted item g o good limits ls leaves f t).0 (x.each t (contains_of h));
    all = λ t l. let z = x.all t ((readings_are_wanted item g o good limits ls leaves f t).1 l) in has_of t ts z.0 z.1 z.2;
  }

  more_by : IsForest g item limits ls → readings.AreMoreThan (calculus g item) (wholes g item limits ls) (chart_limits limits) (leaves_from 0 ls) limits.readings → AreMoreThan (IsWanted g item) limits.readings
  more_by f x = record { trees = x.some; ordered = x.in_order; each = λ t h. (readings_are_wanted item g o good limits ls leaves f t).0 (x.each t (contains_of h)); more = x.many }

pub answers_are_right : {C : Type 0} (item : Item C) → AnswersAreRight item
answers_are_right item g o good limits flat ls leaves LexicalDepth f = absurd f
answers_are_right item g o good limits flat ls leaves ByUnaryChain f = (flat, (ls, leaves, f))
answers_are_right item g o good limits flat ls leaves ByEdges f = (flat, (ls, leaves, f))
answers_are_right item g o good limits flat ls leaves Readings f =
    (flat, (ls, leaves, (f.0.within, more_by item g o good limits ls leaves f.0 f.1)))
answers_are_right item g o good limits flat ls leaves (Trees classes trees) f =
    (flat, (ls, leaves, (f.0.within, f.1, exactly_by item g o good limits ls leaves f.0 trees f.2, f.3)))
