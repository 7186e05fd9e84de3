-- The nodes that were met and drawn are a picture of a table.
use Rattle.std.proofs.Common.{ℕ, ◌≡◌, ◌≤◌, ◌<◌, ◌+◌, ◌^◌, ◌==◌, ◌⊎◌, inl, inr, Bool, true, false, cond, if◌then◌else◌, Some, None, option_map, List, [], ◌∷◌, ◌++◌, length, map, slice_index, slice_index_or, refl, sym, ◌∙◌, ap, subst, arith}
use Rattle.std.specs.List.{find}
use Rattle.std.proofs.lemmas.List.{get_or-map, get_or_append_left, length-map}
use Rattle.fs_model.specs.Claims.{Has}
use Rattle.fs_model.specs.Table.{Table, IsTable}
use Rattle.type_hierarchy.specs.declared.types.Ty.{Ty}
use Rattle.fs_graph.specs.declared.graph.GraphArc.{GraphArc}
use Rattle.fs_graph.specs.GraphMap.{arc_to, arcs_at, Rises}
use Rattle.fs_graph.specs.Inside.{AreRows, row, graph_map}
use Rattle.fs_graph.specs.Orders.{ArePlan}
use Rattle.fs_graph.specs.Visits.{feats_of, targets_of}
use Rattle.fs_graph.proofs.RowLemmas.{row_at, arc_found}
use Rattle.fs_closing.proofs.HasLemmas.{Has-at, Has-either, Has-one}
use Rattle.fs_drawing.specs.declared.draw.Picture.{Picture}
use Rattle.fs_drawing.specs.Drawing.{DrawsRow, left_arc, AreNumbered, IsPlaced, MeetsOne, MeetsEnds, moved, LeavesRow, AddsLeft, DrawsNode, DrawsMet, IsPicture}
use Rattle.fs_drawing.proofs.DrawRows.{rows_begin, rows_more, rows_on, types_more, types_none, types_on}
use Rattle.fs_drawing.proofs.FilterLemmas.{arc_to-filter, rises-filter}
use Rattle.fs_drawing.proofs.MetLemmas.{leaves_on, row_lives}

-- one node more is drawn
module _ (t : Table) (ok : IsTable t) (left : Bool → ℕ → Bool) (k : ℕ) (p p' : Picture) (h : k < length p.met.nodes.items) (d : DrawsMet t left k p)
    (n : ℕ) (n_is : n ≡ slice_index p.met.nodes.items k) (r : List GraphArc) (draws : DrawsRow t n r)
    (adds : AddsLeft p'.met.nodes.items (left (n == 0)) r p.arcs.items p'.arcs.items) (meets : MeetsEnds r p.met.nodes.items p'.met.nodes.items)
    (numbered : AreNumbered p'.met.numbers p'.met.nodes.items) (room : length p'.met.numbers ≡ length p.met.numbers)
    (ty : Ty) (types_are : p'.types.items ≡ p.types.items ++ ty ∷ []) (ty_is : ty.0 ≡ t.type_of n)
    (end : ℕ) (starts_are : p'.starts.items ≡ p.starts.items ++ end ∷ []) (end_is : end ≡ length p'.arcs.items) where
  abbrev old : List ℕ
  old = p.met.nodes.items

  abbrev new : List ℕ
  new = p'.met.nodes.items

  old_at : (j : ℕ) → j < length p.met.nodes.items → slice_index p'.met.nodes.items j ≡ slice_index p.met.nodes.items j
  old_at j l = ap (λ x. slice_index x j) meets.all ∙ get_or_append_left p.met.nodes.items meets.more 0 j l

  size : length p.met.nodes.items ≤ length p'.met.nodes.items
  size = go (old) (new) meets.more meets.all
    where
      go : (a b c : List ℕ) → b ≡ a ++ c → length a ≤ length b
      go [] b c e = omega arith
      go (x ∷ a) b c e = let l = go a (a ++ c) c refl in let m = ap length e in omega (arith, l, m)

  n_lives : (n < t.size) × (t.live n ≡ n)
  n_lives = d.live_nodes n (subst (λ z. Has z p.met.nodes.items) (sym n_is) (Has-at p.met.nodes.items k 0 h))

  lives : (m : ℕ) → Has m p.met.nodes.items ⊎ Has m meets.more → (m < t.size) × (t.live m ≡ m)
  lives m (inl i) = d.live_nodes m i
  lives m (inr i) = row_lives t ok n r n_lives.1 draws m (meets.ends m i)

  node_on : (j : ℕ) (x : List GraphArc) → j < k → DrawsNode t left p.met.nodes.items (slice_index p.met.nodes.items j) x →
      DrawsNode t left p'.met.nodes.items (slice_index p'.met.nodes.items j) x
  node_on j x l q =
      subst (λ z. DrawsNode t left p'.met.nodes.items z x) (sym (old_at j (omega (arith, l, h))))
      (record {
        all = q.all;
        draws = q.draws;
        is_left = subst (λ m. LeavesRow m (left (slice_index p.met.nodes.items j == 0)) q.all x) (sym meets.all)
            (leaves_on p.met.nodes.items meets.more (left (slice_index p.met.nodes.items j == 0)) q.all x q.is_left);
      })

  same : n ≡ slice_index p'.met.nodes.items k
  same = n_is ∙ sym (old_at k h)

  pub draws_next : DrawsMet t left (k + 1) p'
  draws_next = record {
    within = let b = size in omega (arith, h, b);
    room = let a = d.room in omega (arith, a, room);
    numbered = numbered;
    live_nodes = λ m i. lives m (Has-either m p.met.nodes.items meets.more (subst (Has m) meets.all i));
    root = (let a = d.root.0 in let b = size in omega (arith, a, b), old_at 0 d.root.0 ∙ d.root.1);
    types = types_more (λ j. t.type_of (slice_index p'.met.nodes.items j)) k p.types.items p'.types.items ty types_are (ty_is ∙ ap t.type_of same)
        (types_on (λ j. t.type_of (slice_index p.met.nodes.items j)) (λ j. t.type_of (slice_index p'.met.nodes.items j)) k (map (λ y. y.0) p.types.items)
        (λ j l. ap t.type_of (sym (old_at j (omega (arith, l, h))))) d.types);
    rows = rows_more (λ j x. DrawsNode t left p'.met.nodes.items (slice_index p'.met.nodes.items j) x) k end adds.more p.starts.items p'.starts.items
        p.arcs.items p'.arcs.items
        (rows_on (λ j x. DrawsNode t left p.met.nodes.items (slice_index p.met.nodes.items j) x) (λ j x. DrawsNode t left p'.met.nodes.items (slice_index p'.met.nodes.items j) x)
        k p.starts.items p.arcs.items node_on d.rows)
        (subst (λ z. DrawsNode t left p'.met.nodes.items z adds.more) same (record { all = r; draws = draws; is_left = adds.is_left }))
        adds.all starts_are end_is;
  }

-- nothing is noted at any node, and none was met
pub numbered_none : (numbers nodes : List ℕ) → nodes ≡ [] → ((n : ℕ) → slice_index numbers n ≡ 0) → AreNumbered numbers nodes
numbered_none numbers nodes is none = record {
  placed = λ k h. absurd (let l = ap length is in omega (arith, h, l));
  back = λ n some. absurd (some (none n));
}

-- the root alone was met, and nothing is drawn
pub draws_begin : (t : Table) (left : Bool → ℕ → Bool) (old : List ℕ) (p : Picture) (k : ℕ) → t.live 0 ≡ 0 → 0 < t.size → old ≡ [] → t.size ≤ length p.met.numbers →
    AreNumbered p.met.numbers p.met.nodes.items → MeetsOne 0 old p.met.nodes.items → IsPlaced p.met.nodes.items k 0 → p.types.items ≡ [] → p.starts.items ≡ 0 ∷ [] →
    p.arcs.items ≡ [] → DrawsMet t left 0 p
draws_begin t left old p k root filled none room numbered meets placed types starts arcs = record {
  within = omega arith;
  room = room;
  numbered = numbered;
  live_nodes = λ n h. subst (λ z. (z < t.size) × (t.live z ≡ z)) (sym (Has-one n 0 (subst (Has n) is h))) (filled, root);
  root = (let l = ap length is in omega (arith, l), ap (λ l. slice_index l 0) is);
  types = types_none (λ j. t.type_of (slice_index p.met.nodes.items j)) p.types.items types;
  rows = rows_begin (λ j x. DrawsNode t left p.met.nodes.items (slice_index p.met.nodes.items j) x) p.starts.items p.arcs.items starts arcs;
}
  where
    go : (p.met.nodes.items ≡ old) ⊎ (p.met.nodes.items ≡ old ++ 0 ∷ []) → p.met.nodes.items ≡ 0 ∷ []
    go (inl e) = absurd (let l = ap length (e ∙ none) in let h = placed.0 in omega (arith, l, h))
    go (inr e) = e ∙ ap (λ l. l ++ 0 ∷ []) none

    is : p.met.nodes.items ≡ 0 ∷ []
    is = go meets

-- arcs by nodes and by their places
moved_feats : (met : List ℕ) (xs : List GraphArc) → feats_of (map (moved met) xs) ≡ feats_of xs
moved_feats met [] = refl
moved_feats met (x ∷ xs) = ap (λ l. x.feat.0 ∷ l) (moved_feats met xs)

arc_to-moved : (met : List ℕ) (xs : List GraphArc) (f : ℕ) → arc_to (map (moved met) xs) f ≡ option_map (slice_index met) (arc_to xs f)
arc_to-moved met [] f = refl
arc_to-moved met (x ∷ xs) f = go (x.feat.0 == f) (arc_to-moved met xs f)
  where
    go : (b : Bool) → arc_to (map (moved met) xs) f ≡ option_map (slice_index met) (arc_to xs f) →
        option_map (λ a. a.to.0) (cond b (Some (moved met x)) (find (λ a. a.feat.0 == f) (map (moved met) xs)))
        ≡ option_map (slice_index met) (option_map (λ a. a.to.0) (cond b (Some x) (find (λ a. a.feat.0 == f) xs)))
    go true rest = refl
    go false rest = rest

-- all nodes that were met are drawn
module _ (t : Table) (left : Bool → ℕ → Bool) (p : Picture) (d : DrawsMet t left (length p.met.nodes.items) p) (few : length p.met.nodes.items < 2 ^ 32) where
  sizes : length p.types.items ≡ length p.met.nodes.items
  sizes = sym (length-map p.types.items (λ y. y.0)) ∙ d.types.size

  rises : (k : ℕ) → k < length p.met.nodes.items → Rises (row p.starts.items p.arcs.items k)
  rises k h i j a b =
      let one = d.rows.each k h in
      let new = row p.starts.items p.arcs.items k in
      let kept = rises-filter (λ (x : GraphArc). left (slice_index p.met.nodes.items k == 0) x.feat.0) one.all one.draws.rises in
      let there = subst Rises (sym one.is_left.back) kept in
      let long : j < length (map (moved p.met.nodes.items) new) = (let l = length-map new (moved p.met.nodes.items) in omega (arith, b, l)) in
      subst (λ (l : List ℕ). slice_index l i < slice_index l j) (moved_feats p.met.nodes.items new) (there i j a long)

  to_in : (k i : ℕ) → k < length p.met.nodes.items → i < length (row p.starts.items p.arcs.items k) →
      slice_index (targets_of (row p.starts.items p.arcs.items k)) i < length p.met.nodes.items
  to_in k i h l =
      let new = row p.starts.items p.arcs.items k in
      let none : GraphArc = record { feat = record { 0 = 0 }; to = record { 0 = 0 } } in
      subst (λ z. z < length p.met.nodes.items) (sym (get_or-map (λ (a : GraphArc). a.to.0) new i none 0 l))
      ((d.rows.each k h).is_left.to_in (slice_index_or new i none) (Has-at new i none l))

  pub drawn_plan : ArePlan p.types.items p.starts.items p.arcs.items
  drawn_plan = record {
    filled = let a = d.root.0 in let s = sizes in omega (arith, a, s);
    few = let s = sizes in omega (arith, s, few);
    rows = subst (λ z. AreRows z p.starts.items (length p.arcs.items)) (sym sizes) d.rows.rows;
    rises = λ k h. rises k (let s = sizes in omega (arith, h, s));
    to_in = λ k i h l. let low = to_in k i (let s = sizes in omega (arith, h, s)) l in let s = sizes in omega (arith, low, s);
  }

  types_in : (k : ℕ) → k < length (graph_map p.types.items p.starts.items p.arcs.items).types → k < length p.met.nodes.items
  types_in k h = let s = d.types.size in omega (arith, h, s)

  row_is : (k : ℕ) → k < length p.met.nodes.items → arcs_at (graph_map p.types.items p.starts.items p.arcs.items) k ≡ row p.starts.items p.arcs.items k
  row_is k h = row_at p.types.items p.starts.items p.arcs.items k (let s = sizes in omega (arith, h, s))

  met_lives : (k : ℕ) → k < length p.met.nodes.items → (slice_index p.met.nodes.items k < t.size) × (t.live (slice_index p.met.nodes.items k) ≡ slice_index p.met.nodes.items k)
  met_lives k h = d.live_nodes (slice_index p.met.nodes.items k) (Has-at p.met.nodes.items k 0 h)

  arcs : (k f : ℕ) → k < length p.met.nodes.items →
      option_map (slice_index p.met.nodes.items) (arc_to (arcs_at (graph_map p.types.items p.starts.items p.arcs.items) k) f) ≡ left_arc t left (slice_index p.met.nodes.items k) f
  arcs k f h =
      let one = d.rows.each k h in
      let n = slice_index p.met.nodes.items k in
      let new = row p.starts.items p.arcs.items k in
      ap (λ l. option_map (slice_index p.met.nodes.items) (arc_to l f)) (row_is k h)
      ∙ sym (arc_to-moved p.met.nodes.items new f)
      ∙ ap (λ l. arc_to l f) one.is_left.back
      ∙ arc_to-filter (left (n == 0)) one.all f
      ∙ ap (λ o. if left (slice_index p.met.nodes.items k == 0) f then o else None) (one.draws.here f (met_lives k h).1)

  arc_in : (k f j : ℕ) → k < length p.met.nodes.items → arc_to (arcs_at (graph_map p.types.items p.starts.items p.arcs.items) k) f ≡ Some j → j < length p.met.nodes.items
  arc_in k f j h e =
      let new = row p.starts.items p.arcs.items k in
      let found = arc_found new f j (ap (λ l. arc_to l f) (sym (row_is k h)) ∙ e) in
      subst (λ z. z < length p.met.nodes.items) found.3 (to_in k found.0 h found.1)

  pub drawn_picture : IsPicture t left (slice_index p.met.nodes.items) (graph_map p.types.items p.starts.items p.arcs.items)
  drawn_picture = record {
    root = d.root.1;
    apart = λ j k h l e.
        let a = d.numbered.placed j (types_in j h) in
        let b = d.numbered.placed k (types_in k l) in
        let c = ap (slice_index p.met.numbers) e in
        omega (arith, a, b, c);
    node_in = λ k h. (met_lives k (types_in k h)).0;
    lives = λ k h. (met_lives k (types_in k h)).1;
    types = λ k h. d.types.each k (types_in k h);
    arcs = λ k f h. arcs k f (types_in k h);
    arc_in = λ k f j h e. let low = arc_in k f j (types_in k h) e in let s = d.types.size in omega (arith, low, s);
  }
