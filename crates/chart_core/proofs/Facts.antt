-- What the facts of a chart say of a core's tasks.
use Rattle.std.specs.Prelude.{◌≡◌, ℕ, ◌<◌, ◌≤◌, Option, Some, None, List, [], ◌∷◌, length, map, option_map, slice_get, All, MatchOption}
use Rattle.std.proofs.Common.{refl, ap, sym, ◌∙◌, subst, arith, zero, suc, length-append}
use Rattle.std.proofs.lemmas.List.{length-map}
use Rattle.chart_model.specs.Calculus.{Calculus, Laws}
use Rattle.chart_model.specs.Tuples.{on_list}
use Rattle.chart_model.specs.Chart as model
use Rattle.chart_model.specs.At.{At, here, there, from_get, to_get, at_one, at_below, Snoc, old, new, at_snoc}
use Rattle.chart_model.proofs.Pairing.{LowHost, TaskOk, Front, front}
use Rattle.chart_model.proofs.Complete.{FactsOf, RowOk, partial_ok}
use Rattle.chart_model.proofs.Steps.{facts_of_run}
use Rattle.chart_core.specs.declared.chart.Core.{Core}
use Rattle.chart_core.specs.declared.Row.{Row}
use Rattle.chart_core.specs.declared.RowId.{RowId}
use Rattle.chart_core.specs.declared.history.TaskRow.{TaskRow}
use Rattle.chart_core.specs.Grammar.{Grammar}
use Rattle.chart_core.specs.Kept.{IsCore}
use Rattle.chart_core.specs.View.{AreDaughters, Belongs, list_of, row_of, rows_of, task_of, number_of}
use Rattle.chart_core.specs.CoreView.{chart_of, leaves_of, history_of, limits_of}
use Rattle.chart_core.specs.Tests.{TaskFits, IsLow}
use Rattle.chart_core.specs.Copies.{IsWholeAt}
use Rattle.chart_core.proofs.Found.{all_at, at_map, at_mapped}
use Rattle.chart_core.proofs.Frost.{all_at_place}

module _ {M C : Type 0} (k : Calculus M C) (limits : model.Limits) (leaves : List (model.Leaf M C)) (ch : model.Chart M C) (facts : FactsOf k limits leaves leaves ch) (laws : Laws k) where
  -- each daughter of a task is a host of low level
  pub low_task : (t : ℕ) (task : model.Task) → At ch.tasks t task → (j d : ℕ) → At (model.daughters ch.rows task) j d → LowHost k limits ch.rows d
  low_task t task a j d b = of_side (at_snoc (model.before ch.rows task.partial) task.host j d b)
    where
      ok : TaskOk k limits ch.rows task
      ok = facts.pairing.task_ok t task a

      of_front : (p : Option ℕ) → Front k limits ch.rows task.rule p → (i : ℕ) → At (model.before ch.rows p) i d → LowHost k limits ch.rows d
      of_front None f i b = elim b [ ]
      of_front (Some q) (front _ row at kind) i b = facts.low_daughters q row i d at (subst (λ xs. At xs i d) (ap model.daughters_of_row (to_get at)) b)

      of_side : Snoc (model.before ch.rows task.partial) task.host j d → LowHost k limits ch.rows d
      of_side (old b) = of_front task.partial ok.front j b
      of_side (new e same) = subst (LowHost k limits ch.rows) same ok.host

  short_kind : (row : model.Row M C) (rule : ℕ) (kind : model.Kind) → kind ≡ model.OfPartial rule → RowOk k limits leaves ch.rows row kind → length row.daughters < k.arity rule
  short_kind row rule _ e (partial_ok q below short covers shape) = let z : q ≡ rule = cc in subst (λ r. length row.daughters < k.arity r) z short
  short_kind row rule kind e ok = absurd (cc)

  -- the partial row of a task has fewer daughters than its rule
  pub short_front : (t : ℕ) (task : model.Task) → At ch.tasks t task → length (model.before ch.rows task.partial) < k.arity task.rule
  short_front t task a = of_front task.partial ok.front (laws.one_to_four task.rule ok.rule).0
    where
      ok : TaskOk k limits ch.rows task
      ok = facts.pairing.task_ok t task a

      of_front : (p : Option ℕ) → Front k limits ch.rows task.rule p → 0 < k.arity task.rule → length (model.before ch.rows p) < k.arity task.rule
      of_front None f some = some
      of_front (Some q) (front _ row at kind) some = subst (λ xs. length xs < k.arity task.rule) (sym (ap model.daughters_of_row (to_get at))) (short_kind row task.rule row.kind kind (facts.row_ok q row at))

  -- each of these stands for a host of low level
  abbrev pub AreLow : List ℕ → Type 0
  AreLow ds = (j d : ℕ) → At ds j d → LowHost k limits ch.rows d

  low_rest : (d : ℕ) (ds : List ℕ) → AreLow (d ∷ ds) → AreLow ds
  low_rest d ds low j e a = low (suc j) e (there a)

  pub covers_count : (ds : List ℕ) → AreLow ds → length (model.covers_at ch.rows ds) ≡ length ds
  covers_count [] low = refl
  covers_count (d ∷ ds) low =
      let l = low zero d here in
      ap (λ o. length (on_list (model.cover_of o) (model.covers_at ch.rows ds))) (to_get l.at) ∙ ap suc (covers_count ds (low_rest d ds low))

  cons_all : (P : C → Type 0) (c : C) (cs : List C) → P c → All P cs → All P (c ∷ cs)
  cons_all P c cs p h zero d l = p
  cons_all P c cs p h (suc i) d l = h i d (omega arith)

  pub covers_proper : (ds : List ℕ) (low : AreLow ds) → ((d : ℕ) (l : LowHost k limits ch.rows d) → k.proper l.row.cover) → All k.proper (model.covers_at ch.rows ds)
  covers_proper [] low proper = λ i c l. absurd (omega arith)
  covers_proper (d ∷ ds) low proper =
      let l = low zero d here in
      subst (λ o. All k.proper (on_list (model.cover_of o) (model.covers_at ch.rows ds))) (sym (to_get l.at)) (cons_all k.proper l.row.cover (model.covers_at ch.rows ds) (proper d l) (covers_proper ds (low_rest d ds low) proper))

module _ {X T C W B M : Type 0} (g : Grammar T M C) (laws : Laws g.calculus) (core : Core X T C W B) (is : IsCore g core) where
  pub facts_in : FactsOf g.calculus (limits_of core) (leaves_of g.meaning core) (leaves_of g.meaning core) (chart_of g.meaning core)
  facts_in = subst (FactsOf g.calculus (limits_of core) (leaves_of g.meaning core) (leaves_of g.meaning core)) (sym is.state) (facts_of_run g.calculus (limits_of core) (leaves_of g.meaning core) laws (history_of g.meaning core) is.run)

  task_at : (t : ℕ) (info : TaskRow) → slice_get core.tasks.items t ≡ Some info → At (map task_of core.tasks.items) t (task_of info)
  task_at t info e = at_map task_of core.tasks.items t info (from_get core.tasks.items t info e)

  row_at : (d : ℕ) (row : Row X T C W B) → slice_get core.rows.items d ≡ Some row → At (rows_of g.meaning core.rows.items) d (row_of g.meaning row)
  row_at d row e = at_map (row_of g.meaning) core.rows.items d row (from_get core.rows.items d row e)

  below_rows : (d : ℕ) (row : model.Row M C) → At (rows_of g.meaning core.rows.items) d row → d < length core.rows.items
  below_rows d row a = let l = at_below a in omega (arith, l, length-map core.rows.items (row_of g.meaning))

  -- the rows of a task are there
  pub fits : (t : ℕ) (info : TaskRow) → slice_get core.tasks.items t ≡ Some info → TaskFits core.rows.items info
  fits t info e =
      let ok = facts_in.pairing.task_ok t (task_of info) (task_at t info e) in
      record {
        host = below_rows info.host.0 ok.host.row ok.host.at;
        partial = partial_there info.partial ok.front;
        short = λ p row q at. short_there p row (short_front g.calculus (limits_of core) (leaves_of g.meaning core) (chart_of g.meaning core) facts_in laws t (task_of info) (task_at t info e)) q at (laws.one_to_four info.rule ok.rule).1;
      }
    where
      partial_there : (o : Option RowId) → Front g.calculus (limits_of core) (rows_of g.meaning core.rows.items) info.rule (number_of o) → MatchOption o (Unit {0}) (λ p. p.0 < length core.rows.items)
      partial_there None f = tt
      partial_there (Some p) (front _ row at kind) = below_rows p.0 row at

      short_there : (p : RowId) (row : Row X T C W B) → length (model.before (rows_of g.meaning core.rows.items) (number_of info.partial)) < g.calculus.arity info.rule → info.partial ≡ Some p → slice_get core.rows.items p.0 ≡ Some row → g.calculus.arity info.rule ≤ 4 → row.daughters.count < 4
      short_there p row l q at four =
          let same : model.before (rows_of g.meaning core.rows.items) (number_of info.partial) ≡ list_of row.daughters = ap (λ o. model.before (rows_of g.meaning core.rows.items) (number_of o)) q ∙ ap model.daughters_of_row (to_get (row_at p.0 row at)) in
          let counted = (all_at_place (λ (r : Row X T C W B). AreDaughters r.daughters) core.rows.items p.0 row is.sound.sound.daughters (from_get core.rows.items p.0 row at)).counted in
          omega (arith, l, ap length same, counted, four)

  low_all : (t : ℕ) (info : TaskRow) (ds : List ℕ) → slice_get core.tasks.items t ≡ Some info → ds ≡ model.daughters (rows_of g.meaning core.rows.items) (task_of info) → (j d : ℕ) → At ds j d → LowHost g.calculus (limits_of core) (rows_of g.meaning core.rows.items) d
  low_all t info ds e same j d a = low_task g.calculus (limits_of core) (leaves_of g.meaning core) (chart_of g.meaning core) facts_in laws t (task_of info) (task_at t info e) j d (subst (λ xs. At xs j d) same a)

  pub in_range : (t : ℕ) (info : TaskRow) (ds : List ℕ) → slice_get core.tasks.items t ≡ Some info → ds ≡ model.daughters (rows_of g.meaning core.rows.items) (task_of info) → All (λ d. d < length core.rows.items) ds
  in_range t info ds e same = all_at (λ d. d < length core.rows.items) ds (λ j d a. let l = low_all t info ds e same j d a in below_rows d l.row l.at)

  pub lows : (t : ℕ) (info : TaskRow) (ds : List ℕ) → slice_get core.tasks.items t ≡ Some info → ds ≡ model.daughters (rows_of g.meaning core.rows.items) (task_of info) → All (IsLow core.rows.items) ds
  lows t info ds e same = all_at (IsLow core.rows.items) ds (λ j d a row at. let l = low_all t info ds e same j d a in let z : l.row ≡ row_of g.meaning row = at_one l.at (row_at d row at) in let y = ap (λ (r : model.Row M C). r.level) z in omega (arith, l.level, y, is.narrow))

  pub wholes : (t : ℕ) (info : TaskRow) (ds : List ℕ) → slice_get core.tasks.items t ≡ Some info → ds ≡ model.daughters (rows_of g.meaning core.rows.items) (task_of info) → All (IsWholeAt core.rows.items) ds
  wholes t info ds e same = all_at (IsWholeAt core.rows.items) ds (λ j d a row at none. let l = low_all t info ds e same j d a in let z : l.row ≡ row_of g.meaning row = at_one l.at (row_at d row at) in let y = ap (λ (r : model.Row M C). r.shape) z in let x = ap (option_map g.meaning) none in let w = l.shape in absurd (cc))

  proper_host : (d : ℕ) (l : LowHost g.calculus (limits_of core) (rows_of g.meaning core.rows.items) d) → g.calculus.proper l.row.cover
  proper_host d l =
      let w = at_mapped (row_of g.meaning) core.rows.items d l.row l.at in
      of_shape w.0 w.0.shape refl (ap (λ (r : model.Row M C). r.shape) w.2 ∙ l.shape) (ap (λ (r : model.Row M C). r.cover) w.2) (all_at_place (Belongs g.calculus g.belongs) core.rows.items d w.0 is.belongs_all w.1)
    where
      of_shape : (row : Row X T C W B) (o : Option T) → row.shape ≡ o → option_map g.meaning row.shape ≡ Some l.m → row.cover ≡ l.row.cover → Belongs g.calculus g.belongs row → g.calculus.proper l.row.cover
      of_shape row None e some same b = absurd (let z = ap (option_map g.meaning) e in cc)
      of_shape row (Some s) e some same b = subst g.calculus.proper same (subst (λ o. MatchOption o (Unit {0}) (λ shape. g.belongs shape × g.calculus.proper row.cover)) e b).1

  -- the covers of a task's daughters
  pub propers : (t : ℕ) (info : TaskRow) → slice_get core.tasks.items t ≡ Some info → All g.calculus.proper (model.covers_at (rows_of g.meaning core.rows.items) (model.daughters (rows_of g.meaning core.rows.items) (task_of info)))
  propers t info e =
      covers_proper g.calculus (limits_of core) (leaves_of g.meaning core) (chart_of g.meaning core) facts_in laws (model.daughters (rows_of g.meaning core.rows.items) (task_of info))
      (low_all t info (model.daughters (rows_of g.meaning core.rows.items) (task_of info)) e refl) proper_host

  pub covers_counted : (t : ℕ) (info : TaskRow) → slice_get core.tasks.items t ≡ Some info → length (model.covers_at (rows_of g.meaning core.rows.items) (model.daughters (rows_of g.meaning core.rows.items) (task_of info))) ≡ length (model.daughters (rows_of g.meaning core.rows.items) (task_of info))
  covers_counted t info e = covers_count g.calculus (limits_of core) (leaves_of g.meaning core) (chart_of g.meaning core) facts_in laws (model.daughters (rows_of g.meaning core.rows.items) (task_of info)) (low_all t info (model.daughters (rows_of g.meaning core.rows.items) (task_of info)) e refl)

  pub rule_below : (t : ℕ) (info : TaskRow) → slice_get core.tasks.items t ≡ Some info → info.rule < g.calculus.rules
  rule_below t info e = (facts_in.pairing.task_ok t (task_of info) (task_at t info e)).rule

  -- a task has at least one daughter, and at most as many as its rule
  pub counted_within : (t : ℕ) (info : TaskRow) → slice_get core.tasks.items t ≡ Some info → (0 < length (model.daughters (rows_of g.meaning core.rows.items) (task_of info))) × (length (model.daughters (rows_of g.meaning core.rows.items) (task_of info)) ≤ g.calculus.arity info.rule)
  counted_within t info e =
      let n = length-append (model.before (rows_of g.meaning core.rows.items) (number_of info.partial)) (info.host.0 ∷ []) in
      let l = short_front g.calculus (limits_of core) (leaves_of g.meaning core) (chart_of g.meaning core) facts_in laws t (task_of info) (task_at t info e) in
      (omega (arith, n), omega (arith, n, l))

  -- the cover of a mother may stand in a chart
  pub proper_new : (t : ℕ) (info : TaskRow) (c : C) → slice_get core.tasks.items t ≡ Some info → g.calculus.covers info.rule (model.covers_at (rows_of g.meaning core.rows.items) (model.daughters (rows_of g.meaning core.rows.items) (task_of info))) ≡ Some c → g.calculus.proper c
  proper_new t info c e covers =
      let n = counted_within t info e in
      let same = covers_counted t info e in
      laws.proper_mother info.rule (model.covers_at (rows_of g.meaning core.rows.items) (model.daughters (rows_of g.meaning core.rows.items) (task_of info))) c (omega (arith, n.0, same)) (omega (arith, n.1, same)) (propers t info e) covers

  -- the cover of a task's host
  pub host_proper : (t : ℕ) (info : TaskRow) (row : Row X T C W B) → slice_get core.tasks.items t ≡ Some info → slice_get core.rows.items info.host.0 ≡ Some row → g.calculus.proper row.cover
  host_proper t info row e at =
      let l = (facts_in.pairing.task_ok t (task_of info) (task_at t info e)).host in
      let z : l.row ≡ row_of g.meaning row = at_one l.at (row_at info.host.0 row at) in
      subst g.calculus.proper (ap (λ (r : model.Row M C). r.cover) z) (proper_host info.host.0 l)
