-- After every history in which nothing is pending, the chart is complete over its leaves.
use Rattle.std.specs.Prelude.{◌≡◌, ℕ, true, Option, Some, None, List, [], ◌∷◌, ◌++◌, length, refl}
use Rattle.std.proofs.Common.{suc, ap, subst, sym, ◌∙◌, arith, append_assoc, append-nil}
use Rattle.chart_model.specs.Calculus.{Calculus, Laws, Agreement}
use Rattle.chart_model.specs.Chart.{Kind, OfLeaf, OfPartial, OfWhole, Row, Chart, Leaf, Limits, all_free, covers_at, shapes_at, levels_at, level_above, peer_over, with_whole, leaf_row, opened, empty, step, replayed, Replay, Entry, Adds, IsLegal}
use Rattle.chart_model.specs.Below.{Follows, IsRun}
use Rattle.chart_model.specs.Finished.{NothingPending, LeavesHaveRows, AreLow, IsMother, IsWhole, OneRow, RowsHaveHosts, IsComplete}
use Rattle.chart_model.specs.Grown.{HoldsTrees}
use Rattle.chart_model.specs.At.{At, here, there}
use Rattle.chart_model.proofs.Complete.{RowOk, whole_ok, FactsOf, Facts, Low, no_low, more_low, WholeRow, all_due, whole_of, hosts_are_classes, rule_of, led}
use Rattle.chart_model.proofs.Steps.{facts_leaf, facts_empty, facts_step, facts_of_run}
use Rattle.chart_model.proofs.Unique.{Unique, unique_leaf, unique_step}
use Rattle.chart_model.proofs.Leaves.{leaves_have_rows}
use Rattle.chart_model.proofs.Trees.{trees_held}
use Rattle.chart_model.proofs.Gather

module _ {M C : Type 0} (k : Calculus M C) (limits : Limits) (leaves : List (Leaf M C)) where
  follows_of : (ch : Chart M C) (e : Entry M C) → Adds k limits ch e → Follows k limits ch e
  follows_of ch e adds = record { task = adds.task; made = adds.made; pending = adds.pending; skipped = adds.skipped; right = adds.right }

  -- a legal history needs no word about room
  pub run_of : (ch : Chart M C) (history : List (Entry M C)) → IsLegal k limits ch history → IsRun k limits ch history
  run_of ch [] legal = tt
  run_of ch (e ∷ es) legal = (follows_of ch e legal.0, run_of (step k limits ch e) es legal.1)

  unique_by : (entered : List (Leaf M C)) (ch : Chart M C) → FactsOf k limits leaves entered ch → Unique k limits leaves ch → (leaf : Leaf M C) (o : Option ℕ) → peer_over k limits ch (leaf_row k limits leaf) leaf.shape ≡ o → Unique k limits leaves (with_whole k limits ch (leaf_row k limits leaf) leaf.shape)
  unique_by entered ch facts unique leaf None e = rw e (unique_leaf k limits leaves entered ch facts unique (leaf_row k limits leaf) _ _ _ _ refl)
  unique_by entered ch facts unique leaf (Some r) e =
      rw e
      (subst (λ ts. Unique k limits leaves (record ch { rows = ch.rows ++ leaf_row k limits leaf ∷ []; into = ch.into ++ Some r ∷ []; tasks = ts })) (append-nil ch.tasks)
      (subst (λ ds. Unique k limits leaves (record ch { rows = ch.rows ++ leaf_row k limits leaf ∷ []; into = ch.into ++ Some r ∷ []; tasks = ch.tasks ++ []; done = ds })) (append-nil ch.done)
      (unique_leaf k limits leaves entered ch facts unique (leaf_row k limits leaf) (ch.into ++ Some r ∷ []) [] [] ch.made refl)))

  unique_opened : (laws : Laws k) (entered rest : List (Leaf M C)) (ch : Chart M C) → FactsOf k limits leaves entered ch → Unique k limits leaves ch → entered ++ rest ≡ leaves → Unique k limits leaves (opened k limits ch rest)
  unique_opened laws entered [] ch facts unique e = unique
  unique_opened laws entered (leaf ∷ rest) ch facts unique e =
      let at : At leaves (length entered) leaf = subst (λ xs. At xs (length entered) leaf) e (subst (λ i. At (entered ++ leaf ∷ rest) i leaf) (omega arith) (Gather.at_behind entered (leaf ∷ rest) 0 leaf here)) in
      unique_opened laws (entered ++ leaf ∷ []) rest (with_whole k limits ch (leaf_row k limits leaf) leaf.shape)
      (facts_leaf k limits leaves laws entered ch facts (length entered) leaf at)
      (unique_by entered ch facts unique leaf (peer_over k limits ch (leaf_row k limits leaf) leaf.shape) refl)
      (append_assoc entered (leaf ∷ []) rest ∙ e)

  unique_replayed : (laws : Laws k) (ch : Chart M C) (history : List (Entry M C)) → FactsOf k limits leaves leaves ch → Unique k limits leaves ch → IsRun k limits ch history → Unique k limits leaves (replayed k limits ch history)
  unique_replayed laws ch [] facts unique run = unique
  unique_replayed laws ch (e ∷ es) facts unique run = unique_replayed laws (step k limits ch e) es (facts_step k limits leaves laws leaves ch facts e run.0) (unique_step k limits leaves leaves ch facts unique e run.0) run.1

  pub unique_of_run : Laws k → (history : List (Entry M C)) → IsRun k limits (opened k limits (empty k limits) leaves) history → Unique k limits leaves (Replay k limits leaves history)
  unique_of_run laws history run =
      unique_replayed laws (opened k limits (empty k limits) leaves) history
      (facts_of_run k limits leaves laws [] tt)
      (unique_opened laws [] leaves (empty k limits) (facts_empty k limits leaves) (record { origin = λ i row r a e. elim a [ ]; row_once = λ i j a b r p q e f g. elim p [ ] }) refl)
      run

  module _ (laws : Laws k) (ch : Chart M C) (facts : Facts k limits leaves ch) (all_done : NothingPending ch) (unique : Unique k limits leaves ch) where
    low_of : (ds : List ℕ) → AreLow k limits leaves ch ds → Low k limits leaves ch.rows ch.into ds
    low_of [] low = no_low
    low_of (d ∷ ds) low =
        let h = low.hosts 0 d here in
        more_low d (record { row = h.0; at = h.2; m = h.1; shape = h.3; level = h.4 }) (Gather.all_free_at ch.into (d ∷ ds) low.live 0 d here)
        (low_of ds (record { live = (Gather.both_free ch.into d ds low.live).1; hosts = λ j e a. low.hosts (suc j) e (there a) }))

    mother_is : (rule : ℕ) (ds : List ℕ) (w : WholeRow k limits leaves ch.rows rule ds) (kind : Kind) → w.row.kind ≡ kind → RowOk k limits leaves ch.rows w.row kind → IsMother k limits leaves ch rule ds w.row
    mother_is rule ds w (OfLeaf name) e o = absurd (let z = w.kind in cc)
    mother_is rule ds w (OfPartial q) e o = absurd (let z = w.kind in cc)
    mother_is rule ds w (OfWhole q) e (whole_ok _ m q_ok full covers shape mother level) =
        let same : q ≡ rule = let z = w.kind in cc in
        record {
          kind = w.kind;
          daughters_are = w.daughters_are;
          cover = subst (λ xs. k.covers rule (covers_at ch.rows xs) ≡ Some w.row.cover) w.daughters_are (subst (λ x. k.covers x (covers_at ch.rows w.row.daughters) ≡ Some w.row.cover) same covers);
          shape = m;
          shape_is = shape;
          mother = subst (λ xs. k.mother rule (shapes_at ch.rows xs) m) w.daughters_are (subst (λ x. k.mother x (shapes_at ch.rows w.row.daughters) m) same mother);
          level = level ∙ ap (λ xs. level_above (levels_at ch.rows xs)) w.daughters_are;
        }

    one_row_of : (rule : ℕ) (ds : List ℕ) → IsWhole k limits leaves ch rule ds → OneRow k limits leaves ch rule ds
    one_row_of rule ds is =
        let w = whole_of k limits leaves laws ch facts rule ds (all_due k limits leaves ch all_done rule ds) is.rule_is (low_of ds is.low) (record { cover = is.cover; covers = is.covers; apply = is.applies; whole = is.whole }) in
        record {
          number = w.number;
          row = w.row;
          at = w.at;
          is = mother_is rule ds w w.row.kind refl (facts.row_ok w.number w.row w.at);
          once = λ j other a kind are. unique.row_once j w.number other w.row rule a w.at (ap rule_of kind) (ap rule_of w.kind) (are ∙ sym w.daughters_are);
        }

    whole_is : (i rule : ℕ) (row : Row M C) → At ch.rows i row → row.kind ≡ OfWhole rule → all_free ch.into row.daughters ≡ true → (kind : Kind) → row.kind ≡ kind → RowOk k limits leaves ch.rows row kind → IsWhole k limits leaves ch rule row.daughters
    whole_is i rule row a is live (OfLeaf name) e o = absurd (cc)
    whole_is i rule row a is live (OfPartial q) e o = absurd (cc)
    whole_is i rule row a is live (OfWhole q) e (whole_ok _ m q_ok full covers shape mother level) =
        let same : q ≡ rule = cc in
        subst (λ x. IsWhole k limits leaves ch x row.daughters) same
        (record {
          rule_is = q_ok;
          whole = full;
          cover = row.cover;
          covers = covers;
          applies = laws.has_mother q (shapes_at ch.rows row.daughters) m mother;
          low = record { live = live; hosts = λ j d b. let l = facts.low_daughters i row j d a b in (l.row, l.m, l.at, l.shape, l.level) };
        })

    last_of : RowsHaveHosts k limits leaves ch
    last_of i row m a e =
        let l = led k laws ch.rows ch.into facts.standing i row m a e in
        record { end = l.end; leads = l.leads; host = l.live.row; at = l.live.at; shape = l.live.shape; shape_is = l.live.shape_is; over = l.live.over; cover = l.live.cover_is; level = l.live.level_is }

    pub is_complete : LeavesHaveRows k limits leaves ch → IsComplete k limits leaves ch
    is_complete leaf_rows =
        record {
          hosts = hosts_are_classes k limits leaves laws ch facts all_done;
          leaf_rows = leaf_rows;
          tuples = record { one_row = one_row_of; no_other = λ i rule row a e live. whole_is i rule row a e live row.kind refl (facts.row_ok i row a) };
          reps = last_of;
        }

  -- whatever order the outcomes of tasks are entered in, a chart with nothing pending is complete over its leaves
  pub complete_run : Laws k → (history : List (Entry M C)) → IsRun k limits (opened k limits (empty k limits) leaves) history → NothingPending (Replay k limits leaves history) → IsComplete k limits leaves (Replay k limits leaves history)
  complete_run laws history run all_done =
      is_complete laws (Replay k limits leaves history) (facts_of_run k limits leaves laws history run) all_done (unique_of_run laws history run) (leaves_have_rows k limits leaves history)

  pub complete_chart : Laws k → (history : List (Entry M C)) → IsLegal k limits (opened k limits (empty k limits) leaves) history → NothingPending (Replay k limits leaves history) → IsComplete k limits leaves (Replay k limits leaves history)
  complete_chart laws history legal all_done = complete_run laws history (run_of (opened k limits (empty k limits) leaves) history legal) all_done

  -- and each tree with a full structure stands in exactly one group of its forest
  pub forest_run : {F : Type 0} → Laws k → (full : ℕ → List F → F → Type 0) (agrees : M → F → Type 0) → Agreement k.over k.applies k.mother full agrees → (history : List (Entry M C)) → IsRun k limits (opened k limits (empty k limits) leaves) history → NothingPending (Replay k limits leaves history) → HoldsTrees k full agrees limits leaves (Replay k limits leaves history)
  forest_run laws full agrees agree history run all_done =
      λ t c g. trees_held k full agrees agree (λ leaf f. agrees leaf.shape f) (λ leaf f a. a) limits leaves laws (Replay k limits leaves history) (facts_of_run k limits leaves laws history run) all_done (unique_of_run laws history run) (leaves_have_rows k limits leaves history) t c g

  pub complete_forest : {F : Type 0} → Laws k → (full : ℕ → List F → F → Type 0) (agrees : M → F → Type 0) → Agreement k.over k.applies k.mother full agrees → (history : List (Entry M C)) → IsLegal k limits (opened k limits (empty k limits) leaves) history → NothingPending (Replay k limits leaves history) → HoldsTrees k full agrees limits leaves (Replay k limits leaves history)
  complete_forest laws full agrees agree history legal all_done = forest_run laws full agrees agree history (run_of (opened k limits (empty k limits) leaves) history legal) all_done
