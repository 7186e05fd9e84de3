use Rattle.std.proofs.Common.{sym, subst, All}
use Rattle.chart_core.specs.Grammar.{grammar_of}
use Rattle.chart_core.specs.View.{list_of}
use Rattle.chart_core.specs.Copies.{IsWholeAt, ArePartsOf}
use Rattle.chart_core.specs.Outcomes.{outcome_seen}
use Rattle.chart_core.proofs.Copied.{tells}
use Rattle.chart_core.proofs.Looked.{right_in}
use Rattle.chart_core.proofs.Settled.{settled_by, stays_over, none_wrong}
use Rattle.chart_core.proofs.chart.Core.make_open.Goals as goal

pub tuple_of-requires-clause-whole : goal.tuple_of-requires-clause-whole
tuple_of-requires-clause-whole g c = subst (λ rs. All (IsWholeAt rs) (list_of c.args.daughters)) (sym c.deref.ensures.value) c.requires.open.wholes

pub outcome_of-requires : goal.outcome_of-requires
outcome_of-requires g c =
    let s = c.args.shapes.now in
    (tells (grammar_of g.S.Shapes g.S.Cover.Cover s) (g.met.S.Shapes.laws s) c.args.self.now c.requires.core c.args.task.0 c.args.rule c.args.daughters c.in_ok-parts.parts c.requires.open
    (subst (λ rs. ArePartsOf (g.S.Shapes.belongs s) (g.S.Shapes.meaning s) rs c.args.daughters c.in_ok-parts.parts) c.deref.ensures.value c.in_ok-parts.ensures)).1

pub enter_open-requires-clause-right : goal.enter_open-requires-clause-right
enter_open-requires-clause-right g c =
    let s = c.args.shapes.now in
    right_in (grammar_of g.S.Shapes g.S.Cover.Cover s) (g.met.S.Shapes.laws s) c.args.self.now c.requires.core c.args.task.0 c.args.rule c.args.daughters c.in_ok-parts.parts c.requires.open
    (subst (λ rs. ArePartsOf (g.S.Shapes.belongs s) (g.S.Shapes.meaning s) rs c.args.daughters c.in_ok-parts.parts) c.deref.ensures.value c.in_ok-parts.ensures) c.in_ok-outcome.outcome c.in_ok-outcome.ensures.right

pub enter_open-requires-clause-verdicts : goal.enter_open-requires-clause-verdicts
enter_open-requires-clause-verdicts g c = none_wrong (grammar_of g.S.Shapes g.S.Cover.Cover c.args.shapes.now) c.args.self.now c.in_ok-outcome.outcome c.new.result.items c.new.ensures.items

pub returns : goal.returns
returns g c =
    let s = c.args.shapes.now in
    let G = grammar_of g.S.Shapes g.S.Cover.Cover s in
    let o = outcome_seen G.meaning c.in_ok-outcome.outcome in
    let e = c.enter_open.ensures in
    let right = right_in G (g.met.S.Shapes.laws s) c.args.self.now c.requires.core c.args.task.0 c.args.rule c.args.daughters c.in_ok-parts.parts c.requires.open
    (subst (λ rs. ArePartsOf (g.S.Shapes.belongs s) (g.S.Shapes.meaning s) rs c.args.daughters c.in_ok-parts.parts) c.deref.ensures.value c.in_ok-parts.ensures) c.in_ok-outcome.outcome c.in_ok-outcome.ensures.right in
    let settled = settled_by G c.args.self.now c.enter_open.new.self c.args.task.0 o _ c.enter_open.result right e.answer e.change c.in_default.not-NoMemory in
    record { core = e.core; over = stays_over G c.args.self.now c.enter_open.new.self c.args.task.0 o settled e.change.limits e.change.leaves; settled = (o, settled) }
