-- The live hosts that were found are all of them, in order.
use Rattle.std.specs.Prelude.{◌≡◌, ℕ, ◌+◌, ◌≤◌, ◌&&◌, Bool, true, false, is_none, is_some, Option, Some, None, List, [], ◌∷◌, map, option_map, All}
use Rattle.std.specs.List.{filter}
use Rattle.std.proofs.Common.{refl, ap, sym, ◌∙◌, subst, arith, zero, suc, cond}
use Rattle.chart_model.specs.Calculus.{Laws}
use Rattle.chart_model.specs.Chart as model
use Rattle.chart_model.specs.At.{At, here, there, from_get}
use Rattle.chart_model.specs.Picked.{Rises, no_more, next_is}
use Rattle.chart_model.proofs.Standing.{peer_is, peer_yes}
use Rattle.chart_model.proofs.Peers.{at_kept, kept_at}
use Rattle.chart_core.specs.declared.chart.Core.{Core}
use Rattle.chart_core.specs.declared.RowId.{RowId}
use Rattle.chart_core.specs.declared.Peer as declared
use Rattle.chart_core.specs.Grammar.{Grammar}
use Rattle.chart_core.specs.Lists.{lists_of, bucket}
use Rattle.chart_core.specs.View.{row_of}
use Rattle.chart_core.specs.Tests.{at_place, passes, is_peer}
use Rattle.chart_core.specs.Copies.{IsCopy}
use Rattle.chart_core.specs.Calls.{IsLiveHost, ArePeers}
use Rattle.chart_core.specs.Sound.{IsSound, is_host}
use Rattle.chart_core.proofs.Found.{at_map, at_mapped}

rises_weak : (i j : ℕ) (ps : List ℕ) → i ≤ j → Rises j ps → Rises i ps
rises_weak i j [] l no_more = no_more
rises_weak i j (_ ∷ ps) l (next_is p q more) = next_is p (omega arith) more

rises_filter : (t : ℕ → Bool) (i : ℕ) (ps : List ℕ) → Rises i ps → Rises i (filter t ps)
rises_filter t i [] no_more = no_more
rises_filter t i (_ ∷ ps) (next_is p l more) = by_test (t p) (rises_filter t (p + 1) ps more)
  where
    by_test : (b : Bool) → Rises (p + 1) (filter t ps) → Rises i (cond b (p ∷ filter t ps) (filter t ps))
    by_test true r = next_is p l r
    by_test false r = rises_weak i (p + 1) (filter t ps) (omega arith) r

both : (a b : Bool) → a && b ≡ true → (a ≡ true) × (b ≡ true)
both true b h = (refl, h)
both false b h = absurd (cc)

no_into : (o : Option RowId) → is_none o ≡ true → o ≡ None
no_into None e = refl
no_into (Some id) e = absurd (cc)

module _ {A : Type 0} where
  all_here : (P : A → Type 0) (xs : List A) (i : ℕ) (x : A) → All P xs → At xs i x → P x
  all_here P [] i x h a = elim a [ ]
  all_here P (y ∷ xs) zero x h (here) = h 0 x (omega arith)
  all_here P (y ∷ xs) (suc i) x h (there a) = all_here P xs i x (λ k d l. h (suc k) d (omega arith)) a

module _ {X T C W B M : Type 0} (g : Grammar T M C) (laws : Laws g.calculus) (core : Core X T C W B) (sound : IsSound g.keys core) (cover : C) (level : ℕ) (hosts : List (declared.Peer X T C W B)) where
  pub peers_are : map (λ (p : declared.Peer X T C W B). p.row.0) hosts ≡ filter (at_place (is_peer g.calculus g.meaning (λ _. true) cover level) core.rows.items) (bucket (lists_of core.cells) (g.keys.cell cover)) → All (λ (p : declared.Peer X T C W B). IsCopy g.belongs g.meaning core.rows.items p.row.0 p.shape) hosts → ArePeers g core cover level hosts
  peers_are rows copies =
      record {
        each = λ i peer a. each i peer a;
        all = λ p h. all p h;
        in_order = subst (Rises 0) (sym rows) (rises_filter (at_place (is_peer g.calculus g.meaning (λ _. true) cover level) core.rows.items) 0 (bucket (lists_of core.cells) (g.keys.cell cover)) (sound.sound.cells.rising _));
      }
    where
      t : ℕ → Bool
      t = at_place (is_peer g.calculus g.meaning (λ _. true) cover level) core.rows.items

      each : (i : ℕ) (peer : declared.Peer X T C W B) → At hosts i peer → (h : IsLiveHost g core cover level peer.row.0) × (g.meaning peer.shape ≡ g.meaning h.shape) × g.belongs peer.shape
      each i peer a =
          let copy = all_here (λ (p : declared.Peer X T C W B). IsCopy g.belongs g.meaning core.rows.items p.row.0 p.shape) hosts i peer copies a in
          let b : At (filter t (bucket (lists_of core.cells) (g.keys.cell cover))) i peer.row.0 = subst (λ xs. At xs i peer.row.0) rows (at_map (λ (p : declared.Peer X T C W B). p.row.0) hosts i peer a) in
          let yes : t peer.row.0 ≡ true = (at_kept t (bucket (lists_of core.cells) (g.keys.cell cover)) i peer.row.0 b).0 in
          let is : is_peer g.calculus g.meaning (λ _. true) cover level copy.row ≡ true = sym (ap (passes (is_peer g.calculus g.meaning (λ _. true) cover level)) copy.at) ∙ yes in
          let two = both (is_none copy.row.into) (model.has_peer g.calculus (λ _. true) cover level (row_of g.meaning copy.row)) is in
          let p = peer_is g.calculus (λ _. true) cover level (row_of g.meaning copy.row) two.1 in
          (record { row = copy.row; at = copy.at; live = no_into copy.row.into two.0; shape = copy.shape; shape_is = copy.shape_is; cover_is = (laws.same_is copy.row.cover cover).0 p.cover_is; level_is = p.level_is }, copy.same, copy.belongs_too)

      all : (p : ℕ) → IsLiveHost g core cover level p → (i : ℕ) × (peer : declared.Peer X T C W B) × At hosts i peer × (peer.row.0 ≡ p)
      all p h =
          let shape : option_map g.meaning h.row.shape ≡ Some (g.meaning h.shape) = ap (option_map g.meaning) h.shape_is in
          let yes = peer_yes g.calculus (λ _. true) cover level (row_of g.meaning h.row) (record { m = g.meaning h.shape; shape = shape; cover_is = (laws.same_is h.row.cover cover).1 h.cover_is; level_is = h.level_is; passes = refl }) in
          let is : t p ≡ true = ap (passes (is_peer g.calculus g.meaning (λ _. true) cover level)) h.at ∙ ap (λ o. is_none o && model.has_peer g.calculus (λ _. true) cover level (row_of g.meaning h.row)) h.live ∙ yes in
          let wanted : is_host h.row ≡ true = ap (λ o. is_some o && is_none h.row.into) h.shape_is ∙ ap is_none h.live in
          let m = sound.sound.cells.misses_none p h.row (from_get core.rows.items p h.row h.at) wanted in
          let a : At (bucket (lists_of core.cells) (g.keys.cell cover)) m.0 p = subst (λ c. At (bucket (lists_of core.cells) (g.keys.cell c)) m.0 p) h.cover_is m.1 in
          let k = kept_at t (bucket (lists_of core.cells) (g.keys.cell cover)) m.0 p a is in
          let q = at_mapped (λ (p : declared.Peer X T C W B). p.row.0) hosts k.0 p (subst (λ xs. At xs k.0 p) (sym rows) k.1) in
          (k.0, q.0, q.1, q.2)
