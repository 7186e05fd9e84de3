-- A tuple of equal shapes and covers is the tuple of a task.
use Rattle.std.specs.Prelude.{◌≡◌, ℕ, ◌<◌, ◌≤◌, Option, Some, None, List, [], ◌∷◌, length, map, option_map, All}
use Rattle.std.proofs.Common.{refl, ap, sym, ◌∙◌, subst, arith, zero, suc}
use Rattle.std.proofs.lemmas.List.{length-map}
use Rattle.chart_model.specs.Calculus.{Laws}
use Rattle.chart_model.specs.Tuples.{on_list, NoGap, IsTuple, IsFor, covers_of, parts_of}
use Rattle.chart_model.specs.declared.covers.Part.{Part}
use Rattle.chart_model.specs.declared.covers.Tuple.{Tuple}
use Rattle.chart_model.specs.Chart as model
use Rattle.chart_model.specs.At.{from_get, to_get}
use Rattle.chart_core.specs.declared.chart.Core.{Core}
use Rattle.chart_core.specs.declared.Row.{Row}
use Rattle.chart_core.specs.declared.RowId.{RowId}
use Rattle.chart_core.specs.declared.Daughters.{Daughters}
use Rattle.chart_core.specs.Grammar.{Grammar}
use Rattle.chart_core.specs.Kept.{IsCore}
use Rattle.chart_core.specs.View.{AreDaughters, list_of, row_of, rows_of, task_of, number_of}
use Rattle.chart_core.specs.CoreView.{chart_of}
use Rattle.chart_core.specs.Copies.{IsPartOf, ArePartsOf}
use Rattle.chart_core.specs.Steps.{IsTupleOf}
use Rattle.chart_core.specs.Calls.{IsReady}
use Rattle.chart_core.proofs.Found.{at_mapped}
use Rattle.chart_core.proofs.Facts.{propers, counted_within, rule_below}
use Rattle.chart_core.proofs.Stand.{get_map}

module _ {X T C W B M : Type 0} (belongs : T → Type 0) (meaning : T → M) (rows : List (Row X T C W B)) where
  pub record Good (ds : List ℕ) (ps : List (Part T C)) : Type 0 where
    pub count : length ps ≡ length ds
    pub covers : map (λ (p : Part T C). p.cover) ps ≡ model.covers_at (rows_of meaning rows) ds
    pub shapes : map meaning (map (λ (p : Part T C). p.shape) ps) ≡ model.shapes_at (rows_of meaning rows) ds
    pub all : All belongs (map (λ (p : Part T C). p.shape) ps)

  good_none : Good [] []
  good_none = record { count = refl; covers = refl; shapes = refl; all = λ k d l. absurd (omega arith) }

  cons_all : (t : T) (ts : List T) → belongs t → All belongs ts → All belongs (t ∷ ts)
  cons_all t ts b h zero d l = b
  cons_all t ts b h (suc i) d l = h i d (omega arith)

  good_more : (o : Option RowId) (p : Option (Part T C)) → IsPartOf belongs meaning rows o p → (ds : List ℕ) (ps : List (Part T C)) → Good ds ps → Good (on_list (number_of o) ds) (on_list p ps)
  good_more None None e ds ps h = h
  good_more None (Some p) e ds ps h = absurd (cc)
  good_more (Some id) None e ds ps h = absurd e
  good_more (Some id) (Some p) e ds ps h =
      let copy = e.0 in
      let at = get_map (row_of meaning) rows id.0 copy.row copy.at in
      let shape : option_map meaning copy.row.shape ≡ Some (meaning p.shape) = ap (option_map meaning) copy.shape_is ∙ ap Some (sym copy.same) in
      record {
        count = ap suc h.count;
        covers = ap (λ c. c ∷ map (λ (p : Part T C). p.cover) ps) e.1 ∙ ap (λ xs. copy.row.cover ∷ xs) h.covers ∙ sym (ap (λ o. on_list (model.cover_of o) (model.covers_at (rows_of meaning rows) ds)) at);
        shapes = ap (λ xs. meaning p.shape ∷ xs) h.shapes ∙ sym (ap (λ o. on_list o (model.shapes_at (rows_of meaning rows) ds)) shape) ∙ sym (ap (λ o. on_list (model.shape_of o) (model.shapes_at (rows_of meaning rows) ds)) at);
        all = cons_all p.shape (map (λ (p : Part T C). p.shape) ps) copy.belongs_too h.all;
      }

  no_gap : (o q : Option RowId) (p r : Option (Part T C)) → IsPartOf belongs meaning rows o p → IsPartOf belongs meaning rows q r → NoGap o q → NoGap p r
  no_gap None None None r e f h = f
  no_gap None None (Some p) r e f h = absurd (cc)
  no_gap None (Some id) p r e f h = absurd (cc)
  no_gap (Some id) q None r e f h = absurd e
  no_gap (Some id) q (Some p) r e f h = tt

  pub good_parts : (d : Daughters) (t : Tuple T C) → ArePartsOf belongs meaning rows d t → Good (list_of d) (parts_of t)
  good_parts d t h = good_more d.a t.a h.a _ _ (good_more d.b t.b h.b _ _ (good_more d.c t.c h.c _ _ (good_more d.d t.d h.d _ _ good_none)))

  pub tuple_parts : (d : Daughters) (t : Tuple T C) → AreDaughters d → ArePartsOf belongs meaning rows d t → IsTuple t
  tuple_parts d t well h =
      record {
        counted = (good_parts d t h).count ∙ well.counted ∙ sym h.count;
        from_a = no_gap d.a d.b t.a t.b h.a h.b well.from_a;
        from_b = no_gap d.b d.c t.b t.c h.b h.c well.from_b;
        from_c = no_gap d.c d.d t.c t.d h.c h.d well.from_c;
      }

module _ {X T C W B M : Type 0} (g : Grammar T M C) (laws : Laws g.calculus) (core : Core X T C W B) (is : IsCore g core) where
  pub tells : (t rule : ℕ) (d : Daughters) (parts : Tuple T C) → IsReady g core t rule d → ArePartsOf g.belongs g.meaning core.rows.items d parts → IsTupleOf g.meaning (chart_of g.meaning core) t rule parts × IsFor g.calculus g.belongs rule parts
  tells t rule d parts ready h =
      let live = ready.with_these.live in
      let same = ready.with_these.daughters in
      let rows = rows_of g.meaning core.rows.items in
      let good = good_parts g.belongs g.meaning core.rows.items d parts h in
      let w = at_mapped task_of core.tasks.items t live.task (from_get (map task_of core.tasks.items) t live.task live.made) in
      let at = to_get w.1 in
      let counted : (0 < length (model.daughters rows live.task)) × (length (model.daughters rows live.task) ≤ g.calculus.arity live.task.rule) = subst (λ (u : model.Task). (0 < length (model.daughters rows u)) × (length (model.daughters rows u) ≤ g.calculus.arity u.rule)) w.2 (counted_within g laws core is t w.0 at) in
      let proper : All g.calculus.proper (model.covers_at rows (model.daughters rows live.task)) = subst (λ (u : model.Task). All g.calculus.proper (model.covers_at rows (model.daughters rows u))) w.2 (propers g laws core is t w.0 at) in
      let below : live.task.rule < g.calculus.rules = subst (λ (u : model.Task). u.rule < g.calculus.rules) w.2 (rule_below g laws core is t w.0 at) in
      let n = ap length same in
      let covers : covers_of parts ≡ model.covers_at rows (model.daughters rows live.task) = good.covers ∙ ap (model.covers_at rows) same in (
        record {
          live = live;
          rule_is = ready.with_these.rule_is;
          counted = length-map (parts_of parts) (λ (p : Part T C). p.shape) ∙ good.count ∙ n;
          covers = covers;
          shapes = good.shapes ∙ ap (model.shapes_at rows) same;
        },
        record {
          rule_is = subst (λ r. r < g.calculus.rules) (sym ready.with_these.rule_is) below;
          tuple = tuple_parts g.belongs g.meaning core.rows.items d parts ready.well h;
          some = omega (arith, h.count, ready.well.counted, n, counted.0);
          short = let e = ap g.calculus.arity ready.with_these.rule_is in omega (arith, h.count, ready.well.counted, n, counted.1, e);
          shapes = good.all;
          covers = subst (All g.calculus.proper) (sym covers) proper;
        },
      )
