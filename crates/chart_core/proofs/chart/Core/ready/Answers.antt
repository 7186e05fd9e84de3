use Rattle.std.proofs.Common.{sym, subst, All}
use Rattle.chart_core.specs.Grammar.{grammar_of}
use Rattle.chart_core.specs.View.{list_of}
use Rattle.chart_core.specs.Copies.{IsWholeAt, ArePartsOf}
use Rattle.chart_core.specs.Outcomes.{outcome_seen}
use Rattle.chart_core.proofs.Copied.{tells}
use Rattle.chart_core.proofs.Looked.{right_in}
use Rattle.chart_core.proofs.Later.{right_later, stays_done, stays_skipped}
use Rattle.chart_core.proofs.Marked.{entry_done}
use Rattle.chart_core.proofs.chart.Core.ready.Goals as goal

pub tuple_of-requires-clause-whole : goal.tuple_of-requires-clause-whole
tuple_of-requires-clause-whole g c = subst (λ rs. All (IsWholeAt rs) (list_of c.in-Open.daughters)) (sym c.deref.ensures.value) c.in-Open.ensures.wholes

pub returns-in_ok-parts-in-Open-clause-tells : goal.returns-in_ok-parts-in-Open-clause-tells
returns-in_ok-parts-in-Open-clause-tells g c =
    let s = c.args.shapes.now in
    tells (grammar_of g.S.Shapes g.S.Cover.Cover s) (g.met.S.Shapes.laws s) c.args.self.now c.requires.core c.args.task.0 c.in-Open.rule c.in-Open.daughters c.in_ok-parts-in-Open.parts c.in-Open.ensures
    (subst (λ rs. ArePartsOf (g.S.Shapes.belongs s) (g.S.Shapes.meaning s) rs c.in-Open.daughters c.in_ok-parts-in-Open.parts) c.deref.ensures.value c.in_ok-parts-in-Open.ensures)

pub returns-in-Done-clause-stays : goal.returns-in-Done-clause-stays
returns-in-Done-clause-stays g c = λ later is l o.
    let s = c.args.shapes.now in
    let G = grammar_of g.S.Shapes g.S.Cover.Cover s in
    stays_done G (g.met.S.Shapes.laws s) c.args.self.now later c.requires.core is l c.args.task.0 c.in-Done.place (outcome_seen G.meaning o) c.requires.made c.in-Done.ensures

pub returns-in-Skipped-clause-stays : goal.returns-in-Skipped-clause-stays
returns-in-Skipped-clause-stays g c = λ later is l o.
    let s = c.args.shapes.now in
    let G = grammar_of g.S.Shapes g.S.Cover.Cover s in
    stays_skipped G (g.met.S.Shapes.laws s) c.args.self.now later c.requires.core is l c.args.task.0 c.in-Skipped.row.0 (outcome_seen G.meaning o) c.requires.made c.in-Skipped.ensures

pub returns-in_ok-parts-in-Open-clause-stays : goal.returns-in_ok-parts-in-Open-clause-stays
returns-in_ok-parts-in-Open-clause-stays g c = λ later is l o x.
    let s = c.args.shapes.now in
    let G = grammar_of g.S.Shapes g.S.Cover.Cover s in
    right_later G (g.met.S.Shapes.laws s) c.args.self.now later c.requires.core is l c.args.task.0 (outcome_seen G.meaning o) c.requires.made
    (right_in G (g.met.S.Shapes.laws s) c.args.self.now c.requires.core c.args.task.0 c.in-Open.rule c.in-Open.daughters c.in_ok-parts-in-Open.parts c.in-Open.ensures
    (subst (λ rs. ArePartsOf (g.S.Shapes.belongs s) (g.S.Shapes.meaning s) rs c.in-Open.daughters c.in_ok-parts-in-Open.parts) c.deref.ensures.value c.in_ok-parts-in-Open.ensures) o x)

pub returns-in-Done-clause-entered : goal.returns-in-Done-clause-entered
returns-in-Done-clause-entered g c = λ place e a. entry_done (grammar_of g.S.Shapes g.S.Cover.Cover c.args.shapes.now) c.args.self.now c.requires.core place e a

pub returns-in-Skipped-clause-entered : goal.returns-in-Skipped-clause-entered
returns-in-Skipped-clause-entered g c = λ place e a. entry_done (grammar_of g.S.Shapes g.S.Cover.Cover c.args.shapes.now) c.args.self.now c.requires.core place e a

pub returns-in_ok-parts-in-Open-clause-entered : goal.returns-in_ok-parts-in-Open-clause-entered
returns-in_ok-parts-in-Open-clause-entered g c = λ place e a. entry_done (grammar_of g.S.Shapes g.S.Cover.Cover c.args.shapes.now) c.args.self.now c.requires.core place e a

pub returns-in_err-parts-in-Open-clause-entered : goal.returns-in_err-parts-in-Open-clause-entered
returns-in_err-parts-in-Open-clause-entered g c = λ place e a. entry_done (grammar_of g.S.Shapes g.S.Cover.Cover c.args.shapes.now) c.args.self.now c.requires.core place e a
