use Rattle.std.proofs.Common.{◌≡◌, ◌∙◌, ◌+◌, ◌*◌, ◌≤◌, ◌++◌, [], ◌∷◌, sym, ap, subst, None, Some, All, length, arith, refl, leb-true, le-leb, slice_get}
use Rattle.std.proofs.lemmas.List.{length-map}
use Rattle.chart_model.specs.Chart as model
use Rattle.chart_core.specs.Grammar.{grammar_of}
use Rattle.chart_core.specs.CoreView.{chart_of, limits_of, caller_of, candidate_of}
use Rattle.chart_core.specs.View.{Belongs, row_of, task_of}
use Rattle.chart_core.proofs.After.{Placed, placed_core, placed_change, frame_both, mark_ready, still_pending, none_by, some_by, never}
use Rattle.chart_core.proofs.Commute.{step_open, whole_rows}
use Rattle.chart_core.proofs.chart.Core.enter_whole.Goals as goal
use Rattle.chart_core.proofs.chart.Core.enter_whole.Goals.{else-bounded-via-then-bounded+then-is_none+else-is_full, else-bounded-via-then-bounded+else-is_none, else-bounded-via-else-bounded}

pub returns-then-is_full-clause-answer : goal.returns-then-is_full-clause-answer
returns-then-is_full-clause-answer g c =
    let k = g.S.Shapes.calculus c.args.shapes.now in
    let m = g.S.Shapes.meaning c.args.shapes.now in
    let core = c.args.self.now in
    let none : c.in-Ok.peer ≡ None = none_by c.in-Ok.peer c.is_none.result c.is_none.ensures c.if-is_none.true in
    let row = ap (λ r. model.peer_over k (limits_of core) (chart_of m core) r (m c.args.new.shape)) c.requires.open.row_is in
    let room : 4 * core.edges + 64 ≤ core.made = leb-true (4 * core.edges + 64) core.made (sym c.is_full.ensures ∙ c.if-is_full.true) in
    (c.if-bounded.true, c.requires.open.live, (sym row ∙ sym c.in-Ok.ensures ∙ none, room), refl)

pub mark-requires-clause-made : goal.mark-requires-clause-made
mark-requires-clause-made g c =
    let k = g.S.Shapes.calculus c.args.shapes.now in
    let m = g.S.Shapes.meaning c.args.shapes.now in
    let core = c.args.self.now in
    (mark_ready c.push_whole.new.self.tasks.items c.args.call.task.0
    (ap (λ (ch : model.Chart _ _). slice_get ch.done c.args.call.task.0) c.in-Ok-push_whole.ensures.ok ∙ still_pending k (limits_of core) (chart_of m core) (candidate_of m c.args.new) (m c.args.new.shape) c.args.call.task.0 c.requires.open.live.pending)).0

pub mark-requires-clause-pending : goal.mark-requires-clause-pending
mark-requires-clause-pending g c =
    let k = g.S.Shapes.calculus c.args.shapes.now in
    let m = g.S.Shapes.meaning c.args.shapes.now in
    let core = c.args.self.now in
    (mark_ready c.push_whole.new.self.tasks.items c.args.call.task.0
    (ap (λ (ch : model.Chart _ _). slice_get ch.done c.args.call.task.0) c.in-Ok-push_whole.ensures.ok ∙ still_pending k (limits_of core) (chart_of m core) (candidate_of m c.args.new) (m c.args.new.shape) c.args.call.task.0 c.requires.open.live.pending)).1

placed : (g : _) (c : goal.After-mark g) → Placed (grammar_of g.S.Shapes g.S.Cover.Cover c.args.shapes.now) c.args.self.now c.mark.new.self c.args.call.task.0 c.args.call.by (model.whole_row (g.S.Shapes.calculus c.args.shapes.now) (limits_of c.args.self.now) (chart_of (g.S.Shapes.meaning c.args.shapes.now) c.args.self.now) c.requires.open.live.task c.args.new.cover (g.S.Shapes.meaning c.args.shapes.now c.args.new.shape)) (model.with_outcome (g.S.Shapes.calculus c.args.shapes.now) (limits_of c.args.self.now) (chart_of (g.S.Shapes.meaning c.args.shapes.now) c.args.self.now) c.requires.open.live.task (model.Makes c.args.new.cover (g.S.Shapes.meaning c.args.shapes.now c.args.new.shape)))
placed g c =
    let k = g.S.Shapes.calculus c.args.shapes.now in
    let m = g.S.Shapes.meaning c.args.shapes.now in
    let core = c.args.self.now in
    let mid = c.push_whole.new.self in
    let t = c.args.call.task.0 in
    let n : c.len.result ≡ length core.rows.items = omega arith in
    let w = model.whole_row k (limits_of core) (chart_of m core) c.requires.open.live.task c.args.new.cover (m c.args.new.shape) in
    record {
      chart = c.mark.ensures.chart c.args.shapes.now ∙ ap (λ ch. model.with_done ch t) (c.in-Ok-push_whole.ensures.ok ∙ ap (λ r. model.with_whole k (limits_of core) (chart_of m core) r (m c.args.new.shape)) c.requires.open.row_is);
      rows = whole_rows k (limits_of core) (chart_of m core) w (m c.args.new.shape);
      history = c.mark.ensures.history ∙ ap (λ h. h ++ record { task = t; row = Some (record { 0 = c.len.result }); by = c.args.call.by } ∷ []) c.push_whole.ensures.history ∙ ap (λ n. core.history.items ++ record { task = t; row = Some (record { 0 = n }); by = c.args.call.by } ∷ []) n;
      frame = frame_both (grammar_of g.S.Shapes g.S.Cover.Cover c.args.shapes.now) core mid c.mark.new.self c.push_whole.ensures.frame c.mark.ensures.frame;
      belongs = subst (All (Belongs k (g.S.Shapes.belongs c.args.shapes.now))) (sym c.mark.ensures.rows) c.push_whole.ensures.belongs;
      sound = c.mark.ensures.sound;
    }

pub returns-in-Ok-push_whole-clause-answer : goal.returns-in-Ok-push_whole-clause-answer
returns-in-Ok-push_whole-clause-answer g c =
    let k = g.S.Shapes.calculus c.args.shapes.now in
    let m = g.S.Shapes.meaning c.args.shapes.now in
    let core = c.args.self.now in
    let mid = c.push_whole.new.self in
    let live = c.requires.open.live in
    let o = model.Makes c.args.new.cover (m c.args.new.shape) in
    let step = step_open k (limits_of core) (chart_of m core) c.args.call.task.0 o (caller_of c.args.call.by) live in
    let grown = c.in-Ok-push_whole.ensures.ok ∙ ap (λ r. model.with_whole k (limits_of core) (chart_of m core) r (m c.args.new.shape)) c.requires.open.row_is in
    let row = ap (λ r. model.peer_over k (limits_of core) (chart_of m core) r (m c.args.new.shape)) c.requires.open.row_is in
    let a = ap (λ (ch : model.Chart _ _). length ch.tasks) step in
    let b = ap (λ (ch : model.Chart _ _). length ch.tasks) grown in
    let d = length-map mid.tasks.items task_of in
    let e = length-map core.tasks.items task_of in
    let f = length-map core.rows.items (row_of m) in
    record {
      live = live;
      gives = λ e. absurd (cc);
      room = λ asked full. elim c.else-bounded.branch [
        | else-bounded-via-then-bounded+then-is_none+else-is_full w ↦ absurd (never w.is_full.result (w.is_full.ensures ∙ le-leb (4 * core.edges + 64) core.made full.1) w.if-is_full.false)
        | else-bounded-via-then-bounded+else-is_none w ↦ absurd (some_by c.in-Ok.peer w.is_none.result w.is_none.ensures w.if-is_none.false (c.in-Ok.ensures ∙ row ∙ full.0))
        | else-bounded-via-else-bounded w ↦ absurd (never c.args.known.now.bounded asked w.if-bounded.false)
      ];
      place_is = omega arith;
      row_is = omega (arith, f);
      first_is = omega (arith, e);
      end_is = omega (arith, a, b, d);
    }

pub returns-in-Ok-push_whole-clause-change : goal.returns-in-Ok-push_whole-clause-change
returns-in-Ok-push_whole-clause-change g c =
    let m = g.S.Shapes.meaning c.args.shapes.now in
    let core = c.args.self.now in
    placed_change (grammar_of g.S.Shapes g.S.Cover.Cover c.args.shapes.now) core c.mark.new.self c.args.call.task.0 c.args.call.by _ _ (model.Makes c.args.new.cover (m c.args.new.shape)) c.len-place.result (record { 0 = c.len.result }) (record { 0 = c.len-2.result }) (record { 0 = c.len-in-Ok-push_whole.result }) c.requires.core (placed g c) refl refl c.requires.open.live refl

pub returns-in-Ok-push_whole-clause-core : goal.returns-in-Ok-push_whole-clause-core
returns-in-Ok-push_whole-clause-core g c =
    let m = g.S.Shapes.meaning c.args.shapes.now in
    let core = c.args.self.now in
    placed_core (grammar_of g.S.Shapes g.S.Cover.Cover c.args.shapes.now) core c.mark.new.self c.args.call.task.0 c.args.call.by _ _ (model.Makes c.args.new.cover (m c.args.new.shape)) c.requires.core (placed g c) refl refl c.requires.open.live refl c.requires.right
