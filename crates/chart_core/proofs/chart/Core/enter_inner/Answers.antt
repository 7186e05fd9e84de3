use Rattle.std.proofs.Common.{◌∙◌, sym, arith}
use Rattle.chart_model.specs.Chart as model
use Rattle.chart_core.specs.Grammar.{grammar_of}
use Rattle.chart_core.specs.CoreView.{chart_of, limits_of, caller_of}
use Rattle.chart_core.proofs.After.{Marked, marked_core, marked_change, mark_ready}
use Rattle.chart_core.proofs.Commute.{step_skipped, adds_skipped}
use Rattle.chart_core.proofs.chart.Core.enter_inner.Goals as goal

marked : (g : _) (c : goal.Joined-outcome-2 g) → Marked (grammar_of g.S.Shapes g.S.Cover.Cover c.args.shapes.now) c.args.self.now c.mark.new.self c.args.call.task.0 c.args.call.by
marked g c = record { chart = c.mark.ensures.chart c.args.shapes.now; history = c.mark.ensures.history; rows = c.mark.ensures.rows; frame = c.mark.ensures.frame; sound = c.mark.ensures.sound }

pub mark-requires-clause-pending : goal.mark-requires-clause-pending
mark-requires-clause-pending g c = (mark_ready c.args.self.now.tasks.items c.args.call.task.0 c.in-Skipped.ensures.pending).1

pub returns-in-Skipped-clause-answer : goal.returns-in-Skipped-clause-answer
returns-in-Skipped-clause-answer g c = (c.in-Skipped.ensures, omega arith)

pub returns-in-Skipped-clause-change : goal.returns-in-Skipped-clause-change
returns-in-Skipped-clause-change g c =
    let G = grammar_of g.S.Shapes g.S.Cover.Cover c.args.shapes.now in
    let core = c.args.self.now in
    let step = step_skipped G.calculus (limits_of core) (chart_of G.meaning core) c.args.call.task.0 c.in-Skipped.row.0 model.Fails (caller_of c.args.call.by) c.in-Skipped.ensures in
    let r = marked_change G core c.mark.new.self c.args.call.task.0 c.args.call.by (marked g c) step in
    record { chart = c.mark.ensures.chart c.args.shapes.now ∙ sym step; history = r.0; leaves = r.1; limits = r.2 }

pub returns-in-Skipped-clause-core : goal.returns-in-Skipped-clause-core
returns-in-Skipped-clause-core g c =
    let G = grammar_of g.S.Shapes g.S.Cover.Cover c.args.shapes.now in
    let core = c.args.self.now in
    let step = step_skipped G.calculus (limits_of core) (chart_of G.meaning core) c.args.call.task.0 c.in-Skipped.row.0 model.Fails (caller_of c.args.call.by) c.in-Skipped.ensures in
    marked_core G core c.mark.new.self c.args.call.task.0 c.args.call.by c.requires.core (marked g c) (adds_skipped G.calculus (limits_of core) (chart_of G.meaning core) c.args.call.task.0 c.in-Skipped.row.0 (caller_of c.args.call.by) c.in-Skipped.ensures) step
