-- What is told of the hosts of a line's chart is its packed forest.
use Rattle.std.specs.Prelude.{◌≡◌, ℕ, ◌<◌, Some, List, All, length, map, refl, IsPermutation}
use Rattle.std.proofs.Common.{◌∙◌, ap, sym, subst, get_or, arith}
use Rattle.std.specs.List.Sorted.{IsSortedBy}
use Rattle.std.specs.Ordering.{is_lt}
use Rattle.std.specs.Option.{option_map}
use Rattle.std.proofs.lemmas.List.Sorted.{All-permutation}
use Rattle.chart_model.specs.Calculus.{Along}
use Rattle.chart_model.specs.declared.span.Span.{Span}
use Rattle.chart_model.specs.At.{At, at_below, from_get}
use Rattle.chart_model.specs.Chart.{Chart}
use Rattle.chart_model.specs.Chart as model
use Rattle.chart_model.specs.Classes.{Class, IsHost}
use Rattle.chart_core.specs.declared.Limits.{Limits}
use Rattle.chart_core.specs.declared.Row.{Row}
use Rattle.chart_core.specs.CoreView.{chart_of}
use Rattle.chart_core.specs.Kept.{core_of, rows_in, limits_seen}
use Rattle.chart_core.specs.View as seen
use Rattle.derivation.specs.Trees.{Derivation}
use Rattle.fs_model.specs.Claims.{Path}
use Rattle.fs_graph.specs.GraphMap.{reader_of}
use Rattle.fs_unify.specs.Rules.{Grammar}
use Rattle.fs_trim.specs.Cutting.{paths_in}
use Rattle.tree_model.specs.Structures.{Structure}
use Rattle.tree_model.specs.Mothers.{RuleSystem}
use Rattle.tree_model.specs.Views.{view}
use Rattle.tree_model.specs.Signs.{rule_system}
use Rattle.tree_model.specs.Lexical.{Words}
use Rattle.tree_model.specs.Items.{LeafTree, leaves_from}
use Rattle.tree_model.specs.Lattices.{Lattice}
use Rattle.tree_model.specs.Licensed.{parse_item}
use Rattle.packed_items.specs.Answers.{limits_in}
use Rattle.packed_forests.specs.declared.ClassRows.{ClassRows}
use Rattle.packed_forests.specs.Rows.{AreMakerRows, makers_of}
use Rattle.book_signs.specs.Trees.{SignTree, signs_of}
use Rattle.rule_trees.specs.Mothers.{IsShortIn}
use Rattle.rule_trees.proofs.MakingLemmas.{inside}
use Rattle.grammar_shapes.specs.declared.shapes.GrammarShapes.{GrammarShapes}
use Rattle.grammar_shapes.specs.Shaped.{Shape, graph_of}
use Rattle.grammar_shapes.specs.Spanned.{span_calculus}
use Rattle.grammar_shapes.specs.Systems.{grammar_of, rules_of, meaning_of, Belongs}
use Rattle.grammar_rules.specs.Lines.{AreShapesOf}
use Rattle.line_charts.specs.Keys.{Key, compare_keys}
use Rattle.line_charts.specs.Charts.{ToldClass, IsKeyed, IsPackedForest}
use Rattle.line_charts.specs.Inner.Stages.{AreApart, AreLiveHosts, AreNumbered}
use Rattle.line_charts.specs.Inner.Hosts.{class_in, keyed_in, key_of, row_of, class_of_host, HasShape, IsToldHost, IsHostTellable, IsPackedChart}
use Rattle.line_charts.specs.Inner.KeyedHosts.{IsKeyIn, IsKeyOf, IsHostKeyed}
use Rattle.line_charts.specs.declared.hosts.Host.{Host}
use Rattle.line_charts.specs.declared.packing.Packed.{Packed}
use Rattle.line_charts.proofs.Lists.{at_map, at_or, or_at}
use Rattle.line_charts.proofs.Permuted.{moved_back}
use Rattle.line_charts.proofs.Made.{leaf_from}
use Rattle.line_charts.proofs.HostLemmas.{live_hosts, host_rows, hosts_moved, host_shape, row_here, host_tellable}
use Rattle.line_charts.proofs.Forests.{packed_forest}

some_one : {A : Type 0} {x y : A} → Some x ≡ Some y → x ≡ y
some_one e = cc

all_at : {A : Type 0} (P : A → Type 0) (xs : List A) (i : ℕ) (x : A) → All P xs → At xs i x → P x
all_at P xs i x all a = subst P (at_or a x) (all i x (at_below a))

at_all : {A : Type 0} (P : A → Type 0) (xs : List A) → ((i : ℕ) (x : A) → At xs i x → P x) → All P xs
at_all P xs each = λ i d low. each i (get_or xs i d) (or_at xs i d low)

module _ (t : SignTree) (s : GrammarShapes) (are : AreShapesOf t s) (r : RuleSystem) {X W B : Type 0} (limits : Limits) (ls : List (LeafTree Span)) (p : Packed X Shape Span W B)
    (chart : IsPackedChart (span_calculus r) (meaning_of s) (Belongs s) (limits_seen limits) (leaves_from 0 ls) p) where
  abbrev paths : List Path
  paths = (signs_of t).paths

  abbrev ch : Chart Structure Span
  ch = chart_of (meaning_of s) (core_of p.finished)

  abbrev Hosted : Class Structure Span → ℕ → Type 0
  Hosted = IsHost (span_calculus r) (limits_seen limits) (leaves_from 0 ls) ch

  abbrev rows : List (Row X Shape Span W B)
  rows = rows_in (core_of p.finished)

  -- each class has a host with a shape
  pub hosts_shaped : All (λ (c : ClassRows). HasShape p.finished c.host.0) p.classes.items
  hosts_shaped = at_all (λ (c : ClassRows). HasShape p.finished c.host.0) p.classes.items
      (λ i c a. let z = chart.classes.each i c a in host_shape (meaning_of s) p.finished (span_calculus r) (limits_seen limits) (leaves_from 0 ls) z.0 c.host.0 z.1)

  -- the key of a host's row is that of its class
  key_class : (types : _) (feats : List (List ℕ)) (i : ℕ) (key : Key) (c : Class Structure Span) → IsKeyOf s p.finished types feats i key → Hosted c i → c ≡ class_in paths key
  key_class types feats i key c k h =
      let own = k.of_row in
      let e : seen.row_of (meaning_of s) own.row ≡ h.row = row_here (meaning_of s) p.finished i own.row h.row own.at h.at in
      let cover : c.cover ≡ own.row.cover = sym h.cover ∙ sym (ap (λ (x : model.Row Structure Span). x.cover) e) in
      let level : c.level ≡ key.level = sym h.level ∙ sym (ap (λ (x : model.Row Structure Span). x.level) e) ∙ sym k.level in
      let from : c.cover.from ≡ key.from = ap (λ (x : Span). x.from) cover ∙ sym k.from in
      let to : c.cover.to ≡ key.to = ap (λ (x : Span). x.to) cover ∙ sym k.to in
      let meant : Some c.shape ≡ Some (meaning_of s own.shape) = sym h.shape ∙ sym (ap (λ (x : model.Row Structure Span). x.shape) e) ∙ ap (option_map (meaning_of s)) own.is in
      let shape : c.shape ≡ view paths (reader_of key.graph) =
      some_one meant ∙ ap (λ (g : Grammar). view (paths_in g) (reader_of (graph_of own.shape))) are.grammar ∙ ap (λ g. view paths (reader_of g)) (sym k.graph) in
      (λ j. record { cover = record { from = from j; to = to j }; level = level j; shape = shape j })

  module _ (feats : List (List ℕ)) (first moved : List Host) (rows_same : map (λ (h : Host). h.rows) first ≡ p.classes.items) (keyed : All (IsHostKeyed s p.finished (grammar_of s).types feats) first) (perm : IsPermutation first moved) where
    host_at : (n : ℕ) (h : Host) → At first n h → Hosted (class_of_host paths h) (row_of h)
    host_at n h a =
        let z = chart.classes.each n h.rows (subst (λ rs. At rs n h.rows) rows_same (at_map (λ (h : Host). h.rows) a)) in
        subst (λ c. Hosted c (row_of h)) (key_class (grammar_of s).types feats (row_of h) (key_of h) z.0 (all_at (IsHostKeyed s p.finished (grammar_of s).types feats) first n h keyed a) z.1) z.1

    pub live : AreLiveHosts (span_calculus r) (limits_seen limits) (leaves_from 0 ls) ch (class_of_host paths) row_of moved
    live = hosts_moved (span_calculus r) (limits_seen limits) (leaves_from 0 ls) ch paths p.classes.items chart.classes first moved perm
        (live_hosts (span_calculus r) (limits_seen limits) (leaves_from 0 ls) ch paths p.classes.items chart.classes first rows_same host_at)

    moved_keyed : All (IsHostKeyed s p.finished (grammar_of s).types feats) moved
    moved_keyed = All-permutation (IsHostKeyed s p.finished (grammar_of s).types feats) first moved perm keyed

    made : (n : ℕ) (h : Host) → At moved n h → AreMakerRows (span_calculus r) ch (row_of h) (makers_of h.rows)
    made n h a = let z = moved_back first moved perm n h a in host_rows (span_calculus r) (limits_seen limits) (leaves_from 0 ls) ch paths p.classes.items chart.classes first rows_same z.0 h z.1

    key_in : (n : ℕ) (h : Host) → At moved n h → IsKeyIn t.book.system t.book.system.types feats (key_of h)
    key_in n h a = subst (λ (g : Grammar). IsKeyIn g g.types feats (key_of h)) are.grammar (all_at (IsHostKeyed s p.finished (grammar_of s).types feats) moved n h moved_keyed a).is

    pub below : All (λ (h : Host). row_of h < length rows) moved
    below = at_all (λ (h : Host). row_of h < length rows) moved
        (λ n h a. let own = (all_at (IsHostKeyed s p.finished (grammar_of s).types feats) moved n h moved_keyed a).of_row in at_below (from_get rows (row_of h) own.row own.at))

    pub short : All (λ (h : Host). IsShortIn t (key_of h).graph) moved
    short = at_all (λ (h : Host). IsShortIn t (key_of h).graph) moved (λ n h a. (key_in n h a).short)

    keyed_all : (n : ℕ) (h : Host) → At moved n h → IsKeyed (signs_of t) t.book.system.types feats (keyed_in paths (key_of h))
    keyed_all n h a =
        let k = key_in n h a in
        record { from = refl; to = refl; level = refl; graph = record { is_graph = k.is_graph; inside = inside t (key_of h).graph k.short; same = refl }; text = k.text }

    module _ (trees : List Derivation) (trees_are : trees ≡ map (λ (l : LeafTree Span). l.tree) ls) where
      names : (i : ℕ) (leaf : model.Leaf Structure Span) → At (leaves_from 0 ls) i leaf → (leaf.name ≡ i) × (i < length trees)
      names i leaf a =
          let z = leaf_from 0 ls i leaf a in
          (z.2 ∙ omega arith, subst (λ ts. i < length ts) (sym trees_are) (at_below (at_map (λ (l : LeafTree Span). l.tree) z.1)))

      pub tellable : (rules size : ℕ) → length r.rules ≡ rules → length rows ≡ size → All (IsHostTellable rows (length trees) rules size) moved
      tellable rules size e long = at_all (IsHostTellable rows (length trees) rules size) moved (λ n h a.
          let its = (chart.makers (limits_seen limits) (leaves_from 0 ls) ch chart.complete chart.within (class_of_host paths h) (row_of h) (live.each n h a)).1 in
          host_tellable (meaning_of s) p.finished (span_calculus r) (limits_seen limits) (leaves_from 0 ls) (class_of_host paths h) (row_of h) its (length trees) rules size names e long h (made n h a))

module _ (t : SignTree) (s : GrammarShapes) (are : AreShapesOf t s) {X W B : Type 0} (limits : Limits) (ls : List (LeafTree Span)) (p : Packed X Shape Span W B)
    (chart : IsPackedChart (span_calculus (rules_of s)) (meaning_of s) (Belongs s) (limits_seen limits) (leaves_from 0 ls) p)
    (feats : List (List ℕ)) (first moved : List Host) (rows_same : map (λ (h : Host). h.rows) first ≡ p.classes.items) (keyed : All (IsHostKeyed s p.finished (grammar_of s).types feats) first) (perm : IsPermutation first moved)
    (sorted : IsSortedBy (λ x y. is_lt (compare_keys (key_of x) (key_of y))) moved) (trees : List Derivation) (trees_are : trees ≡ map (λ (l : LeafTree Span). l.tree) ls) (apart : AreApart (λ (d : Derivation). d) trees)
    (table : List ℕ) (numbered : AreNumbered row_of moved table) (told : List ToldClass) (along : Along (IsToldHost (signs_of t) (rows_in (core_of p.finished)) trees table) moved told) where
  pub forest : (words : Words) (lattice : Lattice) (most : ℕ) → IsPackedForest (signs_of t) (parse_item (signs_of t) words lattice most) (limits_in limits) ls t.book.system.types feats told
  forest words lattice most =
      let g = signs_of t in
      let r = rule_system g in
      let here = subst (λ (r : RuleSystem). IsPackedChart (span_calculus r) (meaning_of s) (Belongs s) (limits_seen limits) (leaves_from 0 ls) p) are.rules chart in
      packed_forest g (parse_item g words lattice most) (limits_in limits) ls (chart_of (meaning_of s) (core_of p.finished)) here.complete here.within here.makers t.book.system.types feats moved
      (live t s are r limits ls p here feats first moved rows_same keyed perm) sorted (keyed_all t s are r limits ls p here feats first moved rows_same keyed perm) (made t s are r limits ls p here feats first moved rows_same keyed perm)
      trees trees_are apart table numbered (meaning_of s) (rows_in (core_of p.finished)) refl told along
