-- Representatives rise: a row that is the representative of another is packed or frosted only into a later row.
use Rattle.std.specs.Prelude.{◌≡◌, ℕ, ◌<◌, Bool, true, false, if◌then◌else◌, Option, Some, None, List, [], ◌∷◌, ◌++◌, length, slice_get, refl}
use Rattle.std.proofs.Common.{sym, subst, arith, length-append}
use Rattle.chart_model.specs.Calculus.{Calculus}
use Rattle.chart_model.specs.Chart as model
use Rattle.chart_model.specs.Chart.{Row, Task, Chart, Leaf, Limits, Entry, Outcome, Fails, Fits, Makes, step, step_at, replayed, opened, with_done, with_outcome, with_whole, whole_row, partial_row, leaf_row, peer_over, has_peer, frosted, daughters, all_free, is_free}
use Rattle.chart_model.specs.At as Places
use Rattle.chart_model.specs.At.{At, at_below, at_one, at_snoc, Snoc}
use Rattle.chart_model.proofs.Standing
use Rattle.chart_core.specs.declared.chart.Core.{Core}
use Rattle.chart_core.specs.Grammar.{Grammar}
use Rattle.chart_core.specs.CoreView.{chart_of, history_of, leaves_of, limits_of}
use Rattle.chart_core.specs.Kept.{IsCore}

module _ {M C : Type 0} where
  pub record Rising (rows : List (Row M C)) (into : List (Option ℕ)) : Type 0 where
    pub same : length into ≡ length rows
    pub inside : (i r : ℕ) → At into i (Some r) → r < length rows
    pub rises : (i r s : ℕ) → At into i (Some r) → At into r (Some s) → r < s

  -- one more row, whose representative, if any, has none
  pushed : (rows : List (Row M C)) (into : List (Option ℕ)) (w : Row M C) (o : Option ℕ) → ((r : ℕ) → o ≡ Some r → At into r None) → Rising rows into → Rising (rows ++ w ∷ []) (into ++ o ∷ [])
  pushed rows into w o free h =
      record {
        same = omega (arith, length-append into (o ∷ []), length-append rows (w ∷ []), h.same);
        inside = λ i r a. inside_of i r (at_snoc into o i (Some r) a);
        rises = λ i r s a b. rises_of i r s (at_snoc into o i (Some r) a) (at_snoc into o r (Some s) b);
      }
    where
      inside_of : (i r : ℕ) → Snoc into o i (Some r) → r < length (rows ++ w ∷ [])
      inside_of i r (Places.old b) = let z = h.inside i r b in omega (arith, z, length-append rows (w ∷ []))
      inside_of i r (Places.new q e) = let z = at_below (free r e) in omega (arith, z, h.same, length-append rows (w ∷ []))

      rises_of : (i r s : ℕ) → Snoc into o i (Some r) → Snoc into o r (Some s) → r < s
      rises_of i r s (Places.old a) (Places.old b) = h.rises i r s a b
      rises_of i r s (Places.old a) (Places.new q e) = absurd (let z = h.inside i r a in omega (arith, q, z, h.same))
      rises_of i r s (Places.new q e) (Places.old b) = absurd (let z : None ≡ Some s = at_one (free r e) b in cc)
      rises_of i r s (Places.new q e) (Places.new p f) = absurd (let z = at_below (free r e) in omega (arith, z, p))

module _ {M C : Type 0} (k : Calculus M C) where
  -- one more host, which frosts some
  froze : (rows : List (Row M C)) (into : List (Option ℕ)) (test : Row M C → Bool) (w : Row M C) → Rising rows into → Rising (rows ++ w ∷ []) (frosted k test (length rows) rows into ++ None ∷ [])
  froze rows into test w h =
      record {
        same = omega (arith, length-append cold (None ∷ []), length-append rows (w ∷ []), long, h.same);
        inside = λ i r a. inside_of i r (at_snoc cold None i (Some r) a);
        rises = λ i r s a b. rises_of i r s (at_snoc cold None i (Some r) a) (at_snoc cold None r (Some s) b);
      }
    where
      cold : List (Option ℕ)
      cold = frosted k test (length rows) rows into

      long : length cold ≡ length into
      long = Standing.length-frosted k test (length rows) rows into

      -- it is the new host, or was the representative
      of : (i r : ℕ) → At cold i (Some r) → Standing.Frost k test (length rows) rows into i (Some r) → (P : Type 0) → (r ≡ length rows → P) → (At into i (Some r) → P) → P
      of i r a (Standing.written s e b) P last was = was (subst (λ v. At into i v) (sym e) b)
      of i r a (Standing.frozen row b c t e) P last was = last (let z : Some r ≡ Some (length rows) = e in cc)
      of i r a (Standing.stays row b c t e) P last was = absurd (let z : Some r ≡ None = e in cc)
      of i r a (Standing.beyond q) P last was = absurd (let z = at_below a in omega (arith, z, q, long, h.same))

      by : (i r : ℕ) → At cold i (Some r) → (P : Type 0) → (r ≡ length rows → P) → (At into i (Some r) → P) → P
      by i r a = of i r a (Standing.at_frost k test (length rows) rows into i (Some r) a)

      inside_of : (i r : ℕ) → Snoc cold None i (Some r) → r < length (rows ++ w ∷ [])
      inside_of i r (Places.old a) = by i r a _ (λ e. omega (arith, e, length-append rows (w ∷ []))) (λ b. let z = h.inside i r b in omega (arith, z, length-append rows (w ∷ [])))
      inside_of i r (Places.new q e) = absurd (let z : None ≡ Some r = e in cc)

      rises_of : (i r s : ℕ) → Snoc cold None i (Some r) → Snoc cold None r (Some s) → r < s
      rises_of i r s (Places.old a) (Places.old b) =
          by i r a _ (λ e. absurd (let z = at_below b in omega (arith, z, e, long, h.same)))
          (λ c. by r s b _ (λ e. let z = h.inside i r c in omega (arith, z, e)) (λ d. h.rises i r s c d))
      rises_of i r s (Places.old a) (Places.new q e) = absurd (let z : None ≡ Some s = e in cc)
      rises_of i r s (Places.new q e) other = absurd (let z : None ≡ Some r = e in cc)

module _ {M C : Type 0} (k : Calculus M C) (limits : Limits) where
  abbrev Rises : Chart M C → Type 0
  Rises ch = Rising ch.rows ch.into

  rising_peer : (ch : Chart M C) (row : Row M C) (m : M) (o : Option ℕ) → peer_over k limits ch row m ≡ o → Rises ch → Rises (with_whole k limits ch row m)
  rising_peer ch row m (Some r) e h = rw e (pushed ch.rows ch.into row (Some r) free h)
    where
      free : (s : ℕ) → Some r ≡ Some s → At ch.into s None
      free s q =
          let f = Standing.first_at k (has_peer k (λ g. k.over g m) row.cover row.level) 0 r ch.rows ch.into e in
          let n = f.number in
          let z : r ≡ s = cc in
          let p : f.place ≡ s = omega (arith, n, z) in
          subst (λ i. At ch.into i None) p f.free
  rising_peer ch row m None e h = rw e (froze k ch.rows ch.into (has_peer k (k.over m) row.cover row.level) row h)

  rising_outcome : (ch : Chart M C) (task : Task) (o : Outcome M C) → Rises ch → Rises (with_outcome k limits ch task o)
  rising_outcome ch task Fails h = h
  rising_outcome ch task (Fits c) h = pushed ch.rows ch.into (partial_row k limits ch task c) None (λ s q. absurd (cc)) h
  rising_outcome ch task (Makes c m) h = rising_peer ch (whole_row k limits ch task c m) m (peer_over k limits ch (whole_row k limits ch task c m) m) refl h

  rising_live : (ch : Chart M C) (t : ℕ) (task : Task) (o : Outcome M C) (b : Bool) → Rises ch → Rises (if b then with_outcome k limits (with_done ch t) task o else with_done ch t)
  rising_live ch t task o true h = rising_outcome (with_done ch t) task o h
  rising_live ch t task o false h = h

  rising_at : (ch : Chart M C) (t : ℕ) (o : Outcome M C) (task : Option Task) (pending : Bool) → Rises ch → Rises (step_at k limits ch t o task pending)
  rising_at ch t o None pending h = h
  rising_at ch t o (Some task) false h = h
  rising_at ch t o (Some task) true h = rising_live ch t task o (all_free ch.into (daughters ch.rows task)) h

  rising_replayed : (es : List (Entry M C)) (ch : Chart M C) → Rises ch → Rises (replayed k limits ch es)
  rising_replayed [] ch h = h
  rising_replayed (e ∷ es) ch h = rising_replayed es (step k limits ch e) (rising_at ch e.task e.outcome (slice_get ch.tasks e.task) (is_free ch.done e.task) h)

  rising_opened : (leaves : List (Leaf M C)) (ch : Chart M C) → Rises ch → Rises (opened k limits ch leaves)
  rising_opened [] ch h = h
  rising_opened (leaf ∷ leaves) ch h = rising_opened leaves (with_whole k limits ch (leaf_row k limits leaf) leaf.shape) (rising_peer ch (leaf_row k limits leaf) leaf.shape (peer_over k limits ch (leaf_row k limits leaf) leaf.shape) refl h)

  rising_empty : Rises (model.empty k limits)
  rising_empty = record { same = refl; inside = λ i r a. elim a [ ]; rises = λ i r s a b. elim a [ ] }

pub rising_core : {X T C W B M : Type 0} (g : Grammar T M C) (core : Core X T C W B) → IsCore g core → Rising (chart_of g.meaning core).rows (chart_of g.meaning core).into
rising_core g core is =
    let start = rising_opened g.calculus (limits_of core) (leaves_of g.meaning core) (model.empty g.calculus (limits_of core)) (rising_empty g.calculus (limits_of core)) in
    subst (λ (c : Chart _ _). Rising c.rows c.into) (sym is.state) (rising_replayed g.calculus (limits_of core) (history_of g.meaning core) _ start)
