-- The classes that are told of a packed chart are its packed forest.
use Rattle.std.specs.Prelude.{◌≡◌, ℕ, List, [], ◌∷◌, map, refl}
use Rattle.std.proofs.Common.{suc, ap, sym, subst}
use Rattle.std.specs.declared.cmp.Ordering.TheVariants.{Less}
use Rattle.std.specs.List.Sorted.{IsSortedBy}
use Rattle.std.specs.Ordering.{is_lt}
use Rattle.chart_model.specs.Calculus.{Along, along_none, along_more}
use Rattle.chart_model.specs.declared.span.Span.{Span}
use Rattle.type_hierarchy.specs.Table.{TypeTable}
use Rattle.chart_model.specs.At.{At, here, from_get}
use Rattle.chart_model.specs.At.{there as next}
use Rattle.chart_model.specs.Chart.{Chart}
use Rattle.chart_model.specs.Classes.{IsHost}
use Rattle.chart_model.specs.Finished.{IsComplete}
use Rattle.chart_model.specs.Limits.{IsLimitAnswer, Within, IsLowClass}
use Rattle.chart_core.specs.declared.Row.{Row}
use Rattle.chart_core.specs.View as seen
use Rattle.derivation.specs.Trees.{Derivation}
use Rattle.fs_model.specs.Claims.{Path}
use Rattle.tree_model.specs.Structures.{Structure}
use Rattle.tree_model.specs.Signs.{Signs}
use Rattle.tree_model.specs.Items.{Item, LeafTree, Limits, calculus, leaves_from, chart_limits}
use Rattle.packed_forests.specs.Rows.{AreMakerRows, RowsAreMakers, makers_of}
use Rattle.line_charts.specs.Keys.{compare_keys}
use Rattle.line_charts.specs.Charts.{Keyed, Maker, ToldClass, IsKeyed, IsTold, AreMakers, IsPackedForest, classes_of}
use Rattle.line_charts.specs.Inner.Stages.{rule_place, AreApart, AreLiveHosts, AreNumbered, IsMakerAt}
use Rattle.line_charts.specs.Inner.Hosts.{class_in, keyed_in, key_of, row_of, class_of_host, IsToldHost}
use Rattle.line_charts.specs.declared.hosts.Host.{Host}
use Rattle.line_charts.proofs.Lists.{at_map, map_at, along_as}
use Rattle.line_charts.proofs.Rising.{rising_by}
use Rattle.line_charts.proofs.Numbered.{class_there}
use Rattle.line_charts.proofs.KeyLaws.{keys_total, keys_equal}
use Rattle.line_charts.proofs.Made.{IsRowTold, are_makers}

-- what is told of the rows of a chart in code
row_told : {X T W B : Type 0} (meaning : T → Structure) (rows : List (Row X T Span W B)) (ch : Chart Structure Span) → ch.rows ≡ seen.rows_of meaning rows → (trees : List Derivation) (place : ℕ → ℕ) (table : List ℕ) (i : ℕ) (m : Maker) →
    IsMakerAt rows trees place table i m → IsRowTold ch trees place table i m
row_told meaning rows ch e trees place table i m h =
    record {
      row = seen.row_of meaning h.row;
      at = subst (λ rs. At rs i (seen.row_of meaning h.row)) (sym e) (at_map (seen.row_of meaning) (from_get rows i h.row h.at));
      made = h.made;
    }

map_classes : (paths : List Path) (hosts : List Host) → classes_of (map (λ h. keyed_in paths (key_of h)) hosts) ≡ map (class_of_host paths) hosts
map_classes paths [] = refl
map_classes paths (h ∷ hs) = ap (λ cs. class_of_host paths h ∷ cs) (map_classes paths hs)

module _ (g : Signs) (item : Item Span) (limits : Limits) (ls : List (LeafTree Span)) (ch : Chart Structure Span) (complete : IsComplete (calculus g item) (chart_limits limits) (leaves_from 0 ls) ch) (within : IsLimitAnswer (calculus g item) (chart_limits limits) (leaves_from 0 ls) Within)
    (laws : RowsAreMakers (calculus g item)) (types : TypeTable) (feats : List (List ℕ)) (hosts : List Host) (live : AreLiveHosts (calculus g item) (chart_limits limits) (leaves_from 0 ls) ch (class_of_host g.paths) row_of hosts)
    (sorted : IsSortedBy (λ x y. is_lt (compare_keys (key_of x) (key_of y))) hosts) (keyed : (n : ℕ) (h : Host) → At hosts n h → IsKeyed g types feats (keyed_in g.paths (key_of h)))
    (made : (n : ℕ) (h : Host) → At hosts n h → AreMakerRows (calculus g item) ch (row_of h) (makers_of h.rows))
    (trees : List Derivation) (are : trees ≡ map (λ (l : LeafTree Span). l.tree) ls) (apart : AreApart (λ (t : Derivation). t) trees) (table : List ℕ) (numbered : AreNumbered row_of hosts table)
    {X T W B : Type 0} (meaning : T → Structure) (core_rows : List (Row X T Span W B)) (rows_are : ch.rows ≡ seen.rows_of meaning core_rows) where
  abbrev keyed_hosts : List Keyed
  keyed_hosts = map (λ h. keyed_in g.paths (key_of h)) hosts

  -- keys of two hosts differ
  keys_apart : AreApart key_of hosts
  keys_apart i j x y a b e =
      let same : class_of_host g.paths x ≡ class_of_host g.paths y = ap (class_in g.paths) e in
      live.once i j x y a b (complete.hosts.once (class_of_host g.paths y) (row_of x) (row_of y) (subst (λ c. IsHost (calculus g item) (chart_limits limits) (leaves_from 0 ls) ch c (row_of x)) same (live.each i x a)) (live.each j y b))

  one_told : (n : ℕ) (h : Host) (told : ToldClass) → At hosts n h → IsToldHost g core_rows trees table h told → IsTold g item limits ls (classes_of keyed_hosts) (keyed_in g.paths (key_of h)) told
  one_told n h told a is =
      let own = live.each n h a in
      let its = (laws (chart_limits limits) (leaves_from 0 ls) ch complete within (class_of_host g.paths h) (row_of h) own).1 in
      let rows = is.makers in
      let all = are_makers g item limits ls ch complete trees are apart (class_of_host g.paths) row_of hosts live table numbered (class_of_host g.paths h) (row_of h) its (makers_of h.rows) (made n h a) rows.told
      (along_as (λ i m x. row_told meaning core_rows ch rows_are trees (rule_place g) table i m x) rows.each) told.makers rows.moved rows.sorted in
      record {
        from = is.from;
        to = is.to;
        typed = is.typed;
        rooted = is.rooted;
        makers = subst (λ cs. AreMakers g item limits ls cs (class_of_host g.paths h) told.makers) (sym (map_classes g.paths hosts)) all;
      }

  all_told : (hs : List Host) (told : List ToldClass) → ((n : ℕ) (h : Host) → At hs n h → (m : ℕ) × At hosts m h) → Along (IsToldHost g core_rows trees table) hs told → Along (IsTold g item limits ls (classes_of keyed_hosts)) (map (λ h. keyed_in g.paths (key_of h)) hs) told
  all_told _ _ there along_none = along_none
  all_told _ _ there (along_more {x = h} {y = t} {xs = hs} r rs) =
      let z = there 0 h here in
      along_more (one_told z.0 h t z.1 r) (all_told hs _ (λ n h a. there (suc n) h (next a)) rs)

  pub packed_forest : (told : List ToldClass) → Along (IsToldHost g core_rows trees table) hosts told → IsPackedForest g item limits ls types feats told
  packed_forest told along =
      record {
        keyed = keyed_hosts;
        each = λ n k a.
            let r = map_at (λ h. keyed_in g.paths (key_of h)) hosts n k a in
            subst (λ k. IsKeyed g types feats k × IsLowClass (calculus g item) (chart_limits limits) (leaves_from 0 ls) k.class) r.2
            (keyed n r.0 r.1, (laws (chart_limits limits) (leaves_from 0 ls) ch complete within (class_of_host g.paths r.0) (row_of r.0) (live.each n r.0 r.1)).0);
        all = λ c low.
            let h = complete.hosts.found c low.packed in
            let z = class_there (calculus g item) (chart_limits limits) (leaves_from 0 ls) ch (class_of_host g.paths) row_of hosts live table numbered complete.hosts.once c h.0 h.1 in
            (z.0, subst (λ cs. At cs z.0 c) (sym (map_classes g.paths hosts)) z.1);
        rising = λ i j k l low a b.
            let x = map_at (λ h. keyed_in g.paths (key_of h)) hosts i k a in
            let y = map_at (λ h. keyed_in g.paths (key_of h)) hosts j l b in
            subst (λ k. compare_keys k.key l.key ≡ Less) x.2 (subst (λ l. compare_keys (key_of x.0) l.key ≡ Less) y.2
            (rising_by compare_keys keys_total (λ a b. (keys_equal a b).0) key_of hosts sorted keys_apart i j x.0 y.0 low x.1 y.1));
        told_all = all_told hosts told (λ n h a. (n, a)) along;
      }
