use Rattle.std.proofs.Common.{◌≡◌, ◌∙◌, ℕ, zero, suc, List, ◌++◌, [], ◌∷◌, sym, ap, subst, None, Some, All, length, arith, refl, slice_get}
use Rattle.std.proofs.lemmas.List.{length-map}
use Rattle.chart_model.specs.Chart as model
use Rattle.chart_core.specs.Grammar.{grammar_of}
use Rattle.chart_core.specs.CoreView.{chart_of, limits_of, caller_of}
use Rattle.chart_core.specs.View.{Belongs, list_of, row_of, task_of}
use Rattle.chart_core.proofs.After.{Placed, placed_core, placed_change, frame_both, grown_partial, mark_ready}
use Rattle.chart_core.proofs.Commute.{step_open}
use Rattle.chart_core.proofs.chart.Core.enter_partial.Goals as goal

still_first : {A : Type 0} (xs ys : List A) (t : ℕ) (x : A) → slice_get xs t ≡ Some x → slice_get (xs ++ ys) t ≡ Some x
still_first [] ys t x e = absurd (cc)
still_first (y ∷ xs) ys zero x e = e
still_first (y ∷ xs) ys (suc t) x e = still_first xs ys t x e

pub mark-requires-clause-pending : goal.mark-requires-clause-pending
mark-requires-clause-pending g c =
    let before = chart_of (g.S.Shapes.meaning c.args.shapes.now) c.args.self.now in
    (mark_ready c.push_partial.new.self.tasks.items c.args.at.call.task.0
    (ap (λ (ch : model.Chart _ _). slice_get ch.done c.args.at.call.task.0) c.in-Ok.ensures.ok ∙ still_first before.done _ c.args.at.call.task.0 None c.requires.open.live.pending)).1

placed : (g : _) (c : goal.After-mark g) → Placed (grammar_of g.S.Shapes g.S.Cover.Cover c.args.shapes.now) c.args.self.now c.mark.new.self c.args.at.call.task.0 c.args.at.call.by (model.partial_row (g.S.Shapes.calculus c.args.shapes.now) (limits_of c.args.self.now) (chart_of (g.S.Shapes.meaning c.args.shapes.now) c.args.self.now) c.requires.open.live.task c.args.cover) (model.with_outcome (g.S.Shapes.calculus c.args.shapes.now) (limits_of c.args.self.now) (chart_of (g.S.Shapes.meaning c.args.shapes.now) c.args.self.now) c.requires.open.live.task (model.Fits c.args.cover))
placed g c =
    let k = g.S.Shapes.calculus c.args.shapes.now in
    let m = g.S.Shapes.meaning c.args.shapes.now in
    let core = c.args.self.now in
    let mid = c.push_partial.new.self in
    let t = c.args.at.call.task.0 in
    let n : c.len.result ≡ length core.rows.items = omega arith in
    record {
      chart = c.mark.ensures.chart c.args.shapes.now ∙ ap (λ ch. model.with_done ch t) (c.in-Ok.ensures.ok ∙ grown_partial k (limits_of core) (chart_of m core) c.args.at.rule (list_of c.args.at.daughters) c.args.cover c.requires.open.live.task c.requires.open.rule_is c.requires.open.daughters);
      rows = refl;
      history = c.mark.ensures.history ∙ ap (λ h. h ++ record { task = t; row = Some (record { 0 = c.len.result }); by = c.args.at.call.by } ∷ []) c.push_partial.ensures.history ∙ ap (λ n. core.history.items ++ record { task = t; row = Some (record { 0 = n }); by = c.args.at.call.by } ∷ []) n;
      frame = frame_both (grammar_of g.S.Shapes g.S.Cover.Cover c.args.shapes.now) core mid c.mark.new.self c.push_partial.ensures.frame c.mark.ensures.frame;
      belongs = subst (All (Belongs k (g.S.Shapes.belongs c.args.shapes.now))) (sym c.mark.ensures.rows) (c.push_partial.ensures.belongs c.requires.core.belongs_all);
      sound = c.mark.ensures.sound;
    }

pub returns-in-Ok-clause-answer : goal.returns-in-Ok-clause-answer
returns-in-Ok-clause-answer g c = λ bounded.
    let k = g.S.Shapes.calculus c.args.shapes.now in
    let m = g.S.Shapes.meaning c.args.shapes.now in
    let core = c.args.self.now in
    let mid = c.push_partial.new.self in
    let live = c.requires.open.live in
    let step = step_open k (limits_of core) (chart_of m core) c.args.at.call.task.0 (model.Fits c.args.cover) (caller_of c.args.at.call.by) live in
    let grown = c.in-Ok.ensures.ok ∙ grown_partial k (limits_of core) (chart_of m core) c.args.at.rule (list_of c.args.at.daughters) c.args.cover live.task c.requires.open.rule_is c.requires.open.daughters in
    let a = ap (λ (ch : model.Chart _ _). length ch.tasks) step in
    let b = ap (λ (ch : model.Chart _ _). length ch.tasks) grown in
    let d = length-map mid.tasks.items task_of in
    let e = length-map core.tasks.items task_of in
    let f = length-map core.rows.items (row_of m) in
    record {
      live = live;
      gives = λ e. absurd (cc);
      room = λ b f. f;
      place_is = omega arith;
      row_is = omega (arith, f);
      first_is = omega (arith, e);
      end_is = omega (arith, a, b, d);
    }

pub returns-in-Ok-clause-change : goal.returns-in-Ok-clause-change
returns-in-Ok-clause-change g c =
    let k = g.S.Shapes.calculus c.args.shapes.now in
    let m = g.S.Shapes.meaning c.args.shapes.now in
    let core = c.args.self.now in
    placed_change (grammar_of g.S.Shapes g.S.Cover.Cover c.args.shapes.now) core c.mark.new.self c.args.at.call.task.0 c.args.at.call.by _ _ (model.Fits c.args.cover) c.len-place.result (record { 0 = c.len.result }) (record { 0 = c.len-2.result }) (record { 0 = c.len-in-Ok.result }) c.requires.core (placed g c) refl refl c.requires.open.live refl

pub returns-in-Ok-clause-core : goal.returns-in-Ok-clause-core
returns-in-Ok-clause-core g c =
    let core = c.args.self.now in
    placed_core (grammar_of g.S.Shapes g.S.Cover.Cover c.args.shapes.now) core c.mark.new.self c.args.at.call.task.0 c.args.at.call.by _ _ (model.Fits c.args.cover) c.requires.core (placed g c) refl refl c.requires.open.live refl c.requires.right
