-- Nodes are met and drawn one after another.
use Rattle.std.proofs.Common.{ℕ, suc, ◌≡◌, ◌≢◌, ◌≤◌, ◌<◌, ◌+◌, ◌-◌, ◌⊎◌, inl, inr, Bool, true, false, cond, Option, Some, None, option_map, List, [], ◌∷◌, ◌++◌, length, map, take, slice_index, slice_index_or, refl, sym, ◌∙◌, ap, subst, arith, append_assoc, append-nil, length-append}
use Rattle.std.specs.List.{filter}
use Rattle.std.proofs.lemmas.Bool.{cases_lt}
use Rattle.std.proofs.lemmas.List.{get_or_append_left, get_or_push, length-map, map-append, length_push}
use Rattle.std.proofs.lemmas.List.Elements.{filter_more}
use Rattle.fs_model.specs.Claims.{Has, here, there}
use Rattle.fs_model.specs.Table.{Table, IsTable}
use Rattle.fs_model.proofs.StepLemmas.{same_or_other}
use Rattle.fs_graph.specs.declared.graph.GraphArc.{GraphArc}
use Rattle.fs_graph.specs.Visits.{feats_of, targets_of}
use Rattle.fs_graph.proofs.RowLemmas.{arc_there}
use Rattle.fs_closing.proofs.HasLemmas.{Has-map, Has-at, Has-either, Has-one}
use Rattle.fs_drawing.specs.Noting.{Noted}
use Rattle.fs_drawing.specs.Drawing.{DrawsRow, AreNumbered, IsPlaced, MeetsOne, MeetsEnds, moved, LeavesRow, AddsLeft}

-- a node that was met before
pub placed_old : (numbers nodes : List ℕ) → AreNumbered numbers nodes → (n noted : ℕ) → noted ≡ slice_index numbers n → noted ≢ 0 → IsPlaced nodes (noted - 1) n
placed_old numbers nodes a n noted is some =
    let r = a.back n (λ e. some (is ∙ e)) in
    let d = r.3 in
    let same : noted - 1 ≡ r.0 = omega (arith, is, d) in
    subst (λ k. IsPlaced nodes k n) (sym same) (r.1, r.2)

-- a node that is met now
module _ (numbers nodes numbers' nodes' : List ℕ) (a : AreNumbered numbers nodes) (n v : ℕ) (none : slice_index numbers n ≡ 0) (v_is : v ≡ length nodes + 1)
    (at : Noted n v numbers numbers') (more : nodes' ≡ nodes ++ n ∷ []) where
  pub placed_new : IsPlaced nodes' (length nodes) n
  placed_new =
      (let l = ap length more ∙ length_push nodes n in omega (arith, l), ap (λ l. slice_index l (length nodes)) more ∙ get_or_push nodes n 0 (length nodes) refl)

  old_at : (k : ℕ) → k < length nodes → slice_index nodes' k ≡ slice_index nodes k
  old_at k h = ap (λ l. slice_index l k) more ∙ get_or_append_left nodes (n ∷ []) 0 k h

  apart : (k : ℕ) → k < length nodes → slice_index nodes k ≢ n
  apart k h e = let p = a.placed k h in let d = ap (slice_index numbers) e in absurd (omega (arith, p, d, none))

  placed : (k : ℕ) → (k < length nodes) ⊎ (length nodes ≤ k) → k < length nodes' → slice_index numbers' (slice_index nodes' k) ≡ k + 1
  placed k (inl h) l = ap (slice_index numbers') (old_at k h) ∙ at.others (slice_index nodes k) (apart k h) ∙ a.placed k h
  placed k (inr h) l =
      let size = ap length more ∙ length_push nodes n in
      let last : k ≡ length nodes = omega (arith, h, l, size) in
      ap (λ j. slice_index numbers' (slice_index nodes' j)) last ∙ ap (slice_index numbers') placed_new.1 ∙ at.here ∙ v_is ∙ ap (λ j. j + 1) (sym last)

  back : (x : ℕ) → (x ≡ n) ⊎ (x ≢ n) → slice_index numbers' x ≢ 0 → (k : ℕ) × (k < length nodes') × (slice_index nodes' k ≡ x) × (slice_index numbers' x ≡ k + 1)
  back x (inl e) some = (length nodes, placed_new.0, placed_new.1 ∙ sym e, ap (slice_index numbers') e ∙ at.here ∙ v_is)
  back x (inr e) some =
      let same = at.others x e in
      let r = a.back x (λ z. some (same ∙ z)) in
      let h = r.1 in
      let size = ap length more ∙ length_push nodes n in
      (r.0, omega (arith, h, size), old_at r.0 h ∙ r.2, same ∙ r.3)

  pub numbered_new : AreNumbered numbers' nodes'
  numbered_new = record { placed = λ k h. placed k (cases_lt k (length nodes)) h; back = λ x some. back x (same_or_other x n) some }

-- places stay as more nodes are met
pub placed_on : (nodes more : List ℕ) (k n : ℕ) → IsPlaced nodes k n → IsPlaced (nodes ++ more) k n
placed_on nodes more k n (h, e) = (let l = length-append nodes more in omega (arith, h, l), get_or_append_left nodes more 0 k h ∙ e)

moved_on : (met more : List ℕ) (xs : List GraphArc) → ((a : GraphArc) → Has a xs → a.to.0 < length met) → map (moved (met ++ more)) xs ≡ map (moved met) xs
moved_on met more [] low = refl
moved_on met more (a ∷ xs) low =
    ap (λ z. record { feat = a.feat; to = record { 0 = z } } ∷ map (moved (met ++ more)) xs) (get_or_append_left met more 0 a.to.0 (low a here))
    ∙ ap (λ l. moved met a ∷ l) (moved_on met more xs (λ b h. low b (there h)))

pub leaves_on : (met more : List ℕ) (left : ℕ → Bool) (r new : List GraphArc) → LeavesRow met left r new → LeavesRow (met ++ more) left r new
leaves_on met more left r new l = record {
  back = moved_on met more new l.to_in ∙ l.back;
  to_in = λ a h. let low = l.to_in a h in let size = length-append met more in omega (arith, low, size);
}

pub leaves_to : (met met' : List ℕ) (n : ℕ) (left : ℕ → Bool) (r new : List GraphArc) → MeetsOne n met met' → LeavesRow met left r new → LeavesRow met' left r new
leaves_to met met' n left r new (inl e) l = subst (λ m. LeavesRow m left r new) (sym e) l
leaves_to met met' n left r new (inr e) l = subst (λ m. LeavesRow m left r new) (sym e) (leaves_on met (n ∷ []) left r new l)

abbrev no_arc : GraphArc
no_arc = record { feat = record { 0 = 0 }; to = record { 0 = 0 } }

-- an arc of a row is left, or isn't
module _ (left : ℕ → Bool) (row : List GraphArc) (i : ℕ) (arc : GraphArc) (h : i < length row) (arc_is : arc ≡ slice_index_or row i no_arc) where
  filter_next : filter (λ a. left a.feat.0) (take (i + 1) row) ≡ filter (λ a. left a.feat.0) (take i row) ++ cond (left arc.feat.0) (arc ∷ []) []
  filter_next =
      filter_more (λ a. left a.feat.0) row i no_arc h
      ∙ ap (λ (x : GraphArc). filter (λ a. left a.feat.0) (take i row) ++ cond (left x.feat.0) (x ∷ []) []) (sym arc_is)

  pub left_past : (met : List ℕ) (old now : List GraphArc) → left arc.feat.0 ≡ false → AddsLeft met left (take i row) old now → AddsLeft met left (take (i + 1) row) old now
  left_past met old now not_left a = record {
    more = a.more;
    all = a.all;
    is_left = record {
      back = a.is_left.back
          ∙ sym (filter_next ∙ ap (λ b. filter (λ x. left x.feat.0) (take i row) ++ cond b (arc ∷ []) []) not_left ∙ append-nil (filter (λ x. left x.feat.0) (take i row)));
      to_in = a.is_left.to_in;
    };
  }

  pub left_more : (met met' : List ℕ) (old now now' : List GraphArc) (place : ℕ) → left arc.feat.0 ≡ true → MeetsOne arc.to.0 met met' → IsPlaced met' place arc.to.0 →
      now' ≡ now ++ record { feat = arc.feat; to = record { 0 = place } } ∷ [] → AddsLeft met left (take i row) old now → AddsLeft met' left (take (i + 1) row) old now'
  left_more met met' old now now' place is_left meets at_place is a = record {
    more = a.more ++ new ∷ [];
    all = is ∙ ap (λ l. l ++ new ∷ []) a.all ∙ append_assoc old a.more (new ∷ []);
    is_left = record {
      back = map-append (moved met') a.more (new ∷ [])
          ∙ ap (λ l. l ++ moved met' new ∷ []) one.back
          ∙ ap (λ z. filter (λ x. left x.feat.0) (take i row) ++ record { feat = arc.feat; to = record { 0 = z } } ∷ []) at_place.1
          ∙ sym (filter_next ∙ ap (λ b. filter (λ x. left x.feat.0) (take i row) ++ cond b (arc ∷ []) []) is_left);
      to_in = λ x k. to_in x (Has-either x a.more (new ∷ []) k);
    };
  }
    where
      new : GraphArc
      new = record { feat = arc.feat; to = record { 0 = place } }

      one : LeavesRow met' left (take i row) a.more
      one = leaves_to met met' arc.to.0 left (take i row) a.more meets a.is_left

      to_in : (x : GraphArc) → Has x a.more ⊎ Has x (new ∷ []) → x.to.0 < length met'
      to_in x (inl k) = one.to_in x k
      to_in x (inr k) = subst (λ (y : GraphArc). y.to.0 < length met') (sym (Has-one x new k)) at_place.0

  pub target_has : Has arc.to.0 (targets_of row)
  target_has = Has-map (λ a. a.to.0) arc row (subst (λ x. Has x row) (sym arc_is) (Has-at row i no_arc h))

  pub ends_more : (old met met' : List ℕ) → MeetsEnds row old met → MeetsOne arc.to.0 met met' → MeetsEnds row old met'
  ends_more old met met' m (inl e) = subst (MeetsEnds row old) (sym e) m
  ends_more old met met' m (inr e) = record {
    more = m.more ++ arc.to.0 ∷ [];
    all = e ∙ ap (λ l. l ++ arc.to.0 ∷ []) m.all ∙ append_assoc old m.more (arc.to.0 ∷ []);
    ends = λ n k. ends n (Has-either n m.more (arc.to.0 ∷ []) k);
  }
    where
      ends : (n : ℕ) → Has n m.more ⊎ Has n (arc.to.0 ∷ []) → Has n (targets_of row)
      ends n (inl k) = m.ends n k
      ends n (inr k) = subst (λ z. Has z (targets_of row)) (sym (Has-one n arc.to.0 k)) target_has

pub ends_none : (row : List GraphArc) (old : List ℕ) → MeetsEnds row old old
ends_none row old = record { more = []; all = sym (append-nil old); ends = λ n h. elim h [ ] }

pub left_none : (met : List ℕ) (left : ℕ → Bool) (row old : List GraphArc) → AddsLeft met left (take 0 row) old old
left_none met left row old = record {
  more = [];
  all = sym (append-nil old);
  is_left = record { back = none row; to_in = λ a h. elim h [ ] };
}
  where
    none : (xs : List GraphArc) → [] ≡ filter (λ a. left a.feat.0) (take 0 xs)
    none [] = refl
    none (x ∷ xs) = refl

-- the arcs of a row that shows a node that wasn't merged lead to such nodes
pub row_lives : (t : Table) → IsTable t → (n : ℕ) (r : List GraphArc) → t.live n ≡ n → DrawsRow t n r → (m : ℕ) → Has m (targets_of r) → (m < t.size) × (t.live m ≡ m)
row_lives t ok n r lives d m has = go (index_of (targets_of r) m has)
  where
    index_of : (xs : List ℕ) (x : ℕ) → Has x xs → (k : ℕ) × (k < length xs) × (slice_index xs k ≡ x)
    index_of [] x h = elim h [ ]
    index_of (_ ∷ xs) x here = (0, omega arith, refl)
    index_of (y ∷ xs) x (there h) = let r = index_of xs x h in let l = r.1 in (suc r.0, omega (arith, l), r.2)

    ended : (o : Option ℕ) (z : ℕ) → option_map t.live o ≡ Some z → t.live z ≡ z
    ended None z e = absurd cc
    ended (Some y) z e = let same : t.live y ≡ z = cc in ap t.live (sym same) ∙ ok.live_twice y ∙ same

    go : (k : ℕ) × (k < length (targets_of r)) × (slice_index (targets_of r) k ≡ m) → (m < t.size) × (t.live m ≡ m)
    go (k, h, e) =
        let in_r : k < length r = (let l = length-map r (λ (a : GraphArc). a.to.0) in omega (arith, h, l)) in
        let found = arc_there r k d.rises in_r in
        let f = slice_index (feats_of r) k in
        (subst (λ z. z < t.size) e (d.to_in k in_r), ended (t.arc n f) m (sym (d.here f lives) ∙ found ∙ ap Some e))
