-- The hosts of a packed chart, with their keys and the rows that make their members.
use Rattle.std.specs.Prelude.{◌≡◌, ℕ, ◌<◌, Some, None, Option, List, length, map, slice_get, refl, IsPermutation}
use Rattle.std.proofs.Common.{◌∙◌, ap, sym, subst, get_or, arith, ⊎_elim}
use Rattle.std.proofs.lemmas.Bool.{cases_order}
use Rattle.std.specs.Option.{option_map}
use Rattle.chart_model.specs.Calculus.{Calculus, Along, along_none, along_more}
use Rattle.chart_model.specs.declared.span.Span.{Span}
use Rattle.chart_model.specs.At.{At, here, to_get, from_get, at_below}
use Rattle.chart_model.specs.At.{there as next}
use Rattle.chart_model.specs.Chart.{Chart, OfLeaf, OfPartial, OfWhole, Kind}
use Rattle.chart_model.specs.Chart as model
use Rattle.chart_model.specs.Classes.{Class, IsHost}
use Rattle.chart_core.specs.declared.Row.{Row}
use Rattle.chart_core.specs.declared.ended.Finished.{Finished}
use Rattle.chart_core.specs.CoreView.{chart_of}
use Rattle.chart_core.specs.Kept.{core_of, rows_in}
use Rattle.chart_core.specs.View as seen
use Rattle.fs_model.specs.Claims.{Path}
use Rattle.tree_model.specs.Structures.{Structure}
use Rattle.packed_forests.specs.declared.ClassRows.{ClassRows}
use Rattle.packed_forests.specs.Rows.{AreClassRows, AreMakerRows, AreItsMakers, IsMadeBy, Counts, makers_of}
use Rattle.line_charts.specs.Inner.Stages.{AreApart, AreLiveHosts, IsTellable, IsTellableAt}
use Rattle.line_charts.specs.Inner.Hosts.{row_of, class_of_host, HasShape, IsHostTellable}
use Rattle.line_charts.specs.declared.hosts.Host.{Host}
use Rattle.line_charts.proofs.Lists.{at_map, map_at, or_at}
use Rattle.line_charts.proofs.Permuted.{moved_back, moved_on, apart_moved}

module _ (k : Calculus Structure Span) (limits : model.Limits) (leaves : List (model.Leaf Structure Span)) (ch : Chart Structure Span) (paths : List Path) (rows : List ClassRows) (classes : AreClassRows k limits leaves ch rows) where
  abbrev Hosts : Class Structure Span → ℕ → Type 0
  Hosts = IsHost k limits leaves ch

  -- rows rise, so that no host stands twice
  rising_apart : AreApart (λ (r : ClassRows). r.host.0) rows
  rising_apart i j r s a b e =
      let x = at_map (λ (r : ClassRows). r.host.0) a in
      let y = at_map (λ (r : ClassRows). r.host.0) b in
      ⊎_elim (λ same. same)
      (⊎_elim (λ l. let z = classes.rising i j r.host.0 s.host.0 l x y in absurd (omega (arith, z, e)))
      (λ l. let z = classes.rising j i s.host.0 r.host.0 l y x in absurd (omega (arith, z, e))))
      (cases_order i j)

  -- hosts with their keys, in the order of rows
  pub live_hosts : (hosts : List Host) → map (λ h. h.rows) hosts ≡ rows → ((n : ℕ) (h : Host) → At hosts n h → Hosts (class_of_host paths h) (row_of h)) →
      AreLiveHosts k limits leaves ch (class_of_host paths) row_of hosts
  live_hosts hosts e each =
      record {
        each = each;
        all = λ c h is.
            let n = classes.all c h is in
            let r = map_at (λ (r : ClassRows). r.host.0) rows n.0 h n.1 in
            let x = map_at (λ (h : Host). h.rows) hosts n.0 r.0 (subst (λ rs. At rs n.0 r.0) (sym e) r.1) in
            (n.0, x.0, x.1, ap (λ (r : ClassRows). r.host.0) x.2 ∙ r.2);
        once = λ i j x y a b same. rising_apart i j x.rows y.rows (subst (λ rs. At rs i x.rows) e (at_map (λ (h : Host). h.rows) a)) (subst (λ rs. At rs j y.rows) e (at_map (λ (h : Host). h.rows) b)) same;
      }

  -- each host with the rows that make its members
  pub host_rows : (hosts : List Host) → map (λ h. h.rows) hosts ≡ rows → (n : ℕ) (h : Host) → At hosts n h → AreMakerRows k ch (row_of h) (makers_of h.rows)
  host_rows hosts e n h a = classes.makers n h.rows (subst (λ rs. At rs n h.rows) e (at_map (λ (h : Host). h.rows) a))

  -- the same hosts in the order of their keys
  pub hosts_moved : (hosts moved : List Host) → IsPermutation hosts moved → AreLiveHosts k limits leaves ch (class_of_host paths) row_of hosts →
      AreLiveHosts k limits leaves ch (class_of_host paths) row_of moved
  hosts_moved hosts moved perm live =
      record {
        each = λ n h a. let r = moved_back hosts moved perm n h a in live.each r.0 h r.1;
        all = λ c h is. let r = live.all c h is in let z = moved_on hosts moved perm r.0 r.1 r.2 in (z.0, r.1, z.1, r.3);
        once = apart_moved row_of hosts moved perm live.once;
      }

some_one : {A : Type 0} {x y : A} → Some x ≡ Some y → x ≡ y
some_one e = cc

module _ {X T W B : Type 0} (meaning : T → Structure) (f : Finished X T Span W B) where
  abbrev rows_here : List (Row X T Span W B)
  rows_here = rows_in (core_of f)

  abbrev chart_here : Chart Structure Span
  chart_here = chart_of meaning (core_of f)

  shaped : (i : ℕ) (m : Structure) (row : Row X T Span W B) → At rows_here i row → (o : Option T) → row.shape ≡ o → option_map meaning row.shape ≡ Some m → HasShape f i
  shaped i m row a None e s = let z = ap (option_map meaning) e in absurd (cc)
  shaped i m row a (Some shape) e s = record { row = row; at = to_get a; shape = shape; is = e }

  -- a host's row has a shape
  pub host_shape : (k : Calculus Structure Span) (limits : model.Limits) (leaves : List (model.Leaf Structure Span)) (c : Class Structure Span) (i : ℕ) → IsHost k limits leaves chart_here c i → HasShape f i
  host_shape k limits leaves c i h =
      let r = map_at (seen.row_of meaning) rows_here i h.row (from_get _ i h.row h.at) in
      shaped i c.shape r.0 r.1 r.0.shape refl (ap (λ (x : model.Row Structure Span). x.shape) r.2 ∙ h.shape)

  -- the row of a number, in code and in the model
  pub row_here : (i : ℕ) (row : Row X T Span W B) (r : model.Row Structure Span) → slice_get rows_here i ≡ Some row → slice_get chart_here.rows i ≡ Some r → seen.row_of meaning row ≡ r
  row_here i row r a b = some_one (sym (to_get (at_map (seen.row_of meaning) (from_get rows_here i row a))) ∙ b)

  -- what makes members of a host's class can be told
  module _ (k : Calculus Structure Span) (limits : model.Limits) (leaves : List (model.Leaf Structure Span)) (c : Class Structure Span) (h : ℕ) (its : AreItsMakers k limits leaves chart_here c h) (trees rules size : ℕ) (names : (i : ℕ) (leaf : model.Leaf Structure Span) → At leaves i leaf → (leaf.name ≡ i) × (i < trees)) (rules_are : k.rules ≡ rules)
      (long : length rows_here ≡ size) where
    hosts_below : (ds : List (Class Structure Span)) (hs : List ℕ) → Along (IsHost k limits leaves chart_here) ds hs → (j d : ℕ) → At hs j d → d < size
    hosts_below _ _ along_none j d a = elim a [ ]
    hosts_below _ _ (along_more {x = c} {y = d} i is) _ _ here =
        let r = map_at (seen.row_of meaning) rows_here d i.row (from_get _ d i.row i.at) in
        subst (λ n. d < n) long (at_below r.1)
    hosts_below _ _ (along_more i is) _ d (next a) = hosts_below _ _ is _ d a

    by_kind : (i : ℕ) (row : model.Row Structure Span) (kind : Kind) → IsMadeBy k chart_here h i → At chart_here.rows i row → row.kind ≡ kind → Counts k chart_here row → IsTellable trees rules size kind row.daughters
    by_kind i row (OfLeaf name) made at e counts =
        let r = its.of_leaf i name row made at e in
        let z = names i r.0.leaf r.0.at in
        subst (λ n. n < trees) (sym z.0 ∙ r.1 r.0.leaf r.0.at) z.1
    by_kind i row (OfPartial rule) made at e counts = ⊎_elim (λ l. let z = l.1 in absurd (cc)) (λ w. let z = w.1 in absurd (cc)) counts
    by_kind i row (OfWhole rule) made at e counts =
        let r = its.of_tuple i rule row made at e in
        (subst (λ n. rule < n) rules_are r.2.rule_is, λ j d low. hosts_below r.0 row.daughters r.1 j (get_or row.daughters j d) (or_at row.daughters j d low))

    tellable : (i : ℕ) → IsMadeBy k chart_here h i → IsTellableAt rows_here trees rules size i
    tellable i made =
        let r = map_at (seen.row_of meaning) rows_here i made.row made.at in
        record {
          row = r.0;
          at = to_get r.1;
          can = subst (λ (x : model.Row Structure Span). IsTellable trees rules size x.kind x.daughters) (sym r.2) (by_kind i made.row made.row.kind made made.at refl made.counts);
        }

    pub host_tellable : (host : Host) → AreMakerRows k chart_here h (makers_of host.rows) → IsHostTellable rows_here trees rules size host
    host_tellable host are = λ j r low. tellable (get_or host.rows.makers.items j r).0 (are.each j (get_or host.rows.makers.items j r).0 (at_map (λ r. r.0) (or_at host.rows.makers.items j r low)))
