use Rattle.std.proofs.Common.{◌∙◌, sym, ap, subst, arith, All}
use Rattle.chart_model.specs.Chart as model
use Rattle.chart_core.specs.declared.Entered.TheVariants as entered
use Rattle.chart_core.specs.Grammar.{grammar_of}
use Rattle.chart_core.specs.CoreView.{chart_of, limits_of, caller_of}
use Rattle.chart_core.specs.Outcomes.{outcome_seen}
use Rattle.chart_core.specs.View.{list_of, rows_of}
use Rattle.chart_core.specs.Tests.{IsLow}
use Rattle.chart_core.specs.Calls.{IsRightIn, IsAnswerTo, Changes, AreRightVerdicts}
use Rattle.chart_core.proofs.After.{Marked, marked_core, marked_change, mark_ready}
use Rattle.chart_core.proofs.Commute.{step_open, adds_open}
use Rattle.chart_core.proofs.Stand.{proper_open, new_row}
use Rattle.chart_core.proofs.chart.Core.enter_open.Goals as goal

pub mark-requires-clause-pending : goal.mark-requires-clause-pending
mark-requires-clause-pending g c = (mark_ready c.args.self.now.tasks.items c.args.at.call.task.0 c.requires.open.with_these.live.pending).1

pub mark-requires-clause-made : goal.mark-requires-clause-made
mark-requires-clause-made g c = (mark_ready c.args.self.now.tasks.items c.args.at.call.task.0 c.requires.open.with_these.live.pending).0

pub enter_partial-requires-clause-right : goal.enter_partial-requires-clause-right
enter_partial-requires-clause-right g c =
    let G = grammar_of g.S.Shapes g.S.Cover.Cover c.args.shapes.now in
    subst (λ o. IsRightIn G c.args.self.now c.args.at.call.task.0 o) c.in-Fits.is c.requires.right

pub level_over-requires-clause-low : goal.level_over-requires-clause-low
level_over-requires-clause-low g c = subst (λ rs. All (IsLow rs) (list_of c.args.at.daughters)) (sym c.deref.ensures.value) c.requires.open.lows

pub enter_whole-requires-clause-open : goal.enter_whole-requires-clause-open
enter_whole-requires-clause-open g c =
    let G = grammar_of g.S.Shapes g.S.Cover.Cover c.args.shapes.now in
    let rows = rows_of G.meaning c.args.self.now.rows.items in
    let task = c.requires.open.with_these in
    let level = c.level_over.ensures c.args.shapes.now ∙ ap (λ rs. model.level_above (model.levels_at (rows_of G.meaning rs) (list_of c.args.at.daughters))) c.deref.ensures.value in
    record { live = task.live; row_is = new_row rows c.args.at.rule task.live.task.rule (list_of c.args.at.daughters) (model.daughters rows task.live.task) c.level_over.result c.in-Whole.cover (G.meaning c.in-Whole.shape) task.rule_is task.daughters level }

pub enter_whole-requires-clause-right : goal.enter_whole-requires-clause-right
enter_whole-requires-clause-right g c =
    let G = grammar_of g.S.Shapes g.S.Cover.Cover c.args.shapes.now in
    subst (λ o. IsRightIn G c.args.self.now c.args.at.call.task.0 o) c.in-Whole.is c.requires.right

pub enter_whole-requires-clause-proper : goal.enter_whole-requires-clause-proper
enter_whole-requires-clause-proper g c =
    let G = grammar_of g.S.Shapes g.S.Cover.Cover c.args.shapes.now in
    let live = c.requires.open.with_these.live in
    let right = subst (λ o. IsRightIn G c.args.self.now c.args.at.call.task.0 o) c.in-Whole.is c.requires.right in
    proper_open G (g.met.S.Shapes.laws c.args.shapes.now) c.args.self.now c.requires.core c.args.at.call.task.0 live c.in-Whole.cover (right live).1

pub enter_whole-requires-clause-tested : goal.enter_whole-requires-clause-tested
enter_whole-requires-clause-tested g c =
    let G = grammar_of g.S.Shapes g.S.Cover.Cover c.args.shapes.now in
    subst (λ o. AreRightVerdicts G c.args.self.now o c.args.known.now.tested.now.verdicts.items) c.in-Whole.is c.requires.verdicts

marked : (g : _) (c : goal.After-mark g) → Marked (grammar_of g.S.Shapes g.S.Cover.Cover c.args.shapes.now) c.args.self.now c.mark.new.self c.args.at.call.task.0 c.args.at.call.by
marked g c = record { chart = c.mark.ensures.chart c.args.shapes.now; history = c.mark.ensures.history; rows = c.mark.ensures.rows; frame = c.mark.ensures.frame; sound = c.mark.ensures.sound }

pub returns-in-Fails-clause-answer : goal.returns-in-Fails-clause-answer
returns-in-Fails-clause-answer g c = (c.requires.open.with_these.live, ap (outcome_seen (g.S.Shapes.meaning c.args.shapes.now)) c.in-Fails.is, omega arith)

pub returns-in-Fails-clause-change : goal.returns-in-Fails-clause-change
returns-in-Fails-clause-change g c =
    let G = grammar_of g.S.Shapes g.S.Cover.Cover c.args.shapes.now in
    let core = c.args.self.now in
    let step = step_open G.calculus (limits_of core) (chart_of G.meaning core) c.args.at.call.task.0 model.Fails (caller_of c.args.at.call.by) c.requires.open.with_these.live in
    let r = marked_change G core c.mark.new.self c.args.at.call.task.0 c.args.at.call.by (marked g c) step in
    subst (λ o. Changes G core c.args.at.call.task.0 o c.args.at.call.by (entered.Noted c.len-place.result) c.mark.new.self) (sym c.in-Fails.is) (record { chart = c.mark.ensures.chart c.args.shapes.now ∙ sym step; history = r.0; leaves = r.1; limits = r.2 })

pub returns-in-Fails-clause-core : goal.returns-in-Fails-clause-core
returns-in-Fails-clause-core g c =
    let G = grammar_of g.S.Shapes g.S.Cover.Cover c.args.shapes.now in
    let core = c.args.self.now in
    let live = c.requires.open.with_these.live in
    let right = subst (λ o. IsRightIn G core c.args.at.call.task.0 o) c.in-Fails.is c.requires.right in
    let step = step_open G.calculus (limits_of core) (chart_of G.meaning core) c.args.at.call.task.0 model.Fails (caller_of c.args.at.call.by) live in
    marked_core G core c.mark.new.self c.args.at.call.task.0 c.args.at.call.by c.requires.core (marked g c) (adds_open G.calculus (limits_of core) (chart_of G.meaning core) c.args.at.call.task.0 model.Fails (caller_of c.args.at.call.by) live right) step

pub returns-in-Fits-clause-answer : goal.returns-in-Fits-clause-answer
returns-in-Fits-clause-answer g c =
    let G = grammar_of g.S.Shapes g.S.Cover.Cover c.args.shapes.now in
    subst (λ o. IsAnswerTo G c.args.known.now.bounded c.args.self.now c.args.at.call.task.0 (outcome_seen G.meaning o) c.args.at.call.by c.enter_partial.result) (sym c.in-Fits.is) (c.enter_partial.ensures.answer c.args.known.now.bounded)

pub returns-in-Fits-clause-change : goal.returns-in-Fits-clause-change
returns-in-Fits-clause-change g c =
    let G = grammar_of g.S.Shapes g.S.Cover.Cover c.args.shapes.now in
    subst (λ o. Changes G c.args.self.now c.args.at.call.task.0 o c.args.at.call.by c.enter_partial.result c.enter_partial.new.self) (sym c.in-Fits.is) c.enter_partial.ensures.change

pub returns-in-Whole-clause-answer : goal.returns-in-Whole-clause-answer
returns-in-Whole-clause-answer g c =
    let G = grammar_of g.S.Shapes g.S.Cover.Cover c.args.shapes.now in
    subst (λ o. IsAnswerTo G c.args.known.now.bounded c.args.self.now c.args.at.call.task.0 (outcome_seen G.meaning o) c.args.at.call.by c.enter_whole.result) (sym c.in-Whole.is) c.enter_whole.ensures.answer

pub returns-in-Whole-clause-change : goal.returns-in-Whole-clause-change
returns-in-Whole-clause-change g c =
    let G = grammar_of g.S.Shapes g.S.Cover.Cover c.args.shapes.now in
    subst (λ o. Changes G c.args.self.now c.args.at.call.task.0 o c.args.at.call.by c.enter_whole.result c.enter_whole.new.self) (sym c.in-Whole.is) c.enter_whole.ensures.change
