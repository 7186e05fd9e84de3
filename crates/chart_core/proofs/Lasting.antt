-- Verdicts on hosts stay right.
use Rattle.std.specs.Prelude.{◌≡◌, ℕ, ◌+◌, ◌≤◌, option_map, Option, Some, List, [], ◌∷◌, ◌++◌, length, map}
use Rattle.std.proofs.Common.{ap, sym, ◌∙◌, subst, append_assoc, append-nil, drop}
use Rattle.std.proofs.lemmas.List.{map-append, drop_more, drop_all}
use Rattle.std.proofs.lemmas.Option.{get_or_from_slice_get}
use Rattle.chart_model.specs.Calculus.{Calculus, Laws}
use Rattle.chart_model.specs.At as Places
use Rattle.chart_model.specs.At.{At, at_below, to_get, at_one, at_append, at_snoc, Snoc, from_get}
use Rattle.chart_core.specs.declared.RowId.{RowId}
use Rattle.chart_core.specs.declared.Peer.{Peer}
use Rattle.chart_core.specs.declared.Verdict.{Verdict}
use Rattle.chart_core.specs.declared.Outcome.TheVariants as outcomes
use Rattle.chart_core.specs.Grammar.{Grammar}
use Rattle.chart_core.specs.View.{row_of, rows_of}
use Rattle.chart_core.specs.Verdicts.{StandsTo, AreOn}
use Rattle.chart_core.specs.Later.{AreLasting}
use Rattle.chart_core.proofs.Found.{at_map}
use Rattle.chart_core.proofs.Later.{rows_later}

drop_at : {A : Type 0} (xs : List A) (i : ℕ) (x : A) → At xs i x → drop i xs ≡ x ∷ drop (i + 1) xs
drop_at xs i x a = drop_more xs i x (at_below a) ∙ ap (λ y. y ∷ drop (i + 1) xs) (get_or_from_slice_get xs i x x (to_get a))

module _ {X T C W B : Type 0} where
  -- the rows so far, and those that are still to come
  pub rows_next : (hosts : List (Peer X T C W B)) (verdicts : List Verdict) (all : List RowId) (v : Verdict) (i : ℕ) (peer : Peer X T C W B) → At hosts i peer → v.row ≡ peer.row → map (λ (x : Verdict). x.row) verdicts ++ map (λ (p : Peer X T C W B). p.row) (drop i hosts) ≡ all → map (λ (x : Verdict). x.row) (verdicts ++ v ∷ []) ++ map (λ (p : Peer X T C W B). p.row) (drop (i + 1) hosts) ≡ all
  rows_next hosts verdicts all v i peer at e h =
      let of_peer : Peer X T C W B → RowId = λ p. p.row in
      let of_verdict : Verdict → RowId = λ x. x.row in
      ap (λ xs. xs ++ map of_peer (drop (i + 1) hosts)) (map-append of_verdict verdicts (v ∷ []))
      ∙ append_assoc (map of_verdict verdicts) (v.row ∷ []) (map of_peer (drop (i + 1) hosts))
      ∙ ap (λ r. map of_verdict verdicts ++ r ∷ map of_peer (drop (i + 1) hosts)) e
      ∙ ap (λ xs. map of_verdict verdicts ++ map of_peer xs) (sym (drop_at hosts i peer at))
      ∙ h

  pub rows_all : (hosts : List (Peer X T C W B)) (verdicts : List Verdict) (i : ℕ) → length hosts ≤ i → map (λ (x : Verdict). x.row) verdicts ++ map (λ (p : Peer X T C W B). p.row) (drop i hosts) ≡ map (λ (p : Peer X T C W B). p.row) hosts → map (λ (x : Verdict). x.row) verdicts ≡ map (λ (p : Peer X T C W B). p.row) hosts
  rows_all hosts verdicts i l h =
      let of_peer : Peer X T C W B → RowId = λ p. p.row in
      let of_verdict : Verdict → RowId = λ x. x.row in
      sym (append-nil (map of_verdict verdicts)) ∙ ap (λ xs. map of_verdict verdicts ++ map of_peer xs) (sym (drop_all i hosts l)) ∙ h

module _ {X T C W B M : Type 0} (k : Calculus M C) (meaning : T → M) (m : M) where
  pub none_on : (hosts : List (Peer X T C W B)) → AreOn k meaning m hosts []
  none_on hosts i v a = elim a [ ]

  -- one more verdict, on one of the hosts
  pub one_on : (hosts : List (Peer X T C W B)) (verdicts : List Verdict) (v : Verdict) (n : ℕ) (peer : Peer X T C W B) → At hosts n peer → StandsTo k meaning m peer v → AreOn k meaning m hosts verdicts → AreOn k meaning m hosts (verdicts ++ v ∷ [])
  one_on hosts verdicts v n peer at stands on i w a = of_snoc (at_snoc verdicts v i w a)
    where
      of_snoc : Snoc verdicts v i w → (n : ℕ) × (peer : Peer X T C W B) × At hosts n peer × StandsTo k meaning m peer w
      of_snoc (Places.old b) = on i w b
      of_snoc (Places.new p q) = (n, peer, at, subst (StandsTo k meaning m peer) q stands)

module _ {X T C W B M : Type 0} (g : Grammar T M C) (laws : Laws g.calculus) (hosts : List (Peer X T C W B)) (verdicts : List Verdict) where
  module _ (cover : C) (shape : T) (on : AreOn g.calculus g.meaning (g.meaning shape) hosts verdicts) where
    pub lasting : AreLasting g hosts (outcomes.Whole cover shape) verdicts
    lasting old new c level was is later peers i v row a at =
        let o = on i v a in
        let n = o.0 in
        let peer = o.1 in
        let stands = o.3 in
        let each = peers.each n peer o.2 in
        let h = each.0 in
        let b = rows_later g laws old new was is later in
        let was_row : At (rows_of g.meaning new.rows.items) peer.row.0 (row_of g.meaning h.row) =
        subst (λ rs. At rs peer.row.0 (row_of g.meaning h.row)) (sym b.are) (at_append b.more (at_map (row_of g.meaning) old.rows.items peer.row.0 h.row (from_get old.rows.items peer.row.0 h.row h.at))) in
        let is_row : At (rows_of g.meaning new.rows.items) peer.row.0 (row_of g.meaning row) =
        at_map (row_of g.meaning) new.rows.items peer.row.0 row (subst (λ r. At new.rows.items r.0 row) stands.row at) in
        let same = ap (λ r. r.shape) (at_one is_row was_row) in
        record {
          over = λ s e. stands.over ∙ ap (λ x. g.calculus.over x (g.meaning shape)) (meant s e h.shape h.shape_is each.1 same);
          under = λ s e. stands.under ∙ ap (λ x. g.calculus.over (g.meaning shape) x) (meant s e h.shape h.shape_is each.1 same);
        }
      where
        meant : {p : T} {x y : Option T} (s : T) → x ≡ Some s → (t : T) → y ≡ Some t → g.meaning p ≡ g.meaning t → option_map g.meaning x ≡ option_map g.meaning y → g.meaning p ≡ g.meaning s
        meant s e t f q r = let z = sym (ap (option_map g.meaning) e) ∙ r ∙ ap (option_map g.meaning) f in cc
