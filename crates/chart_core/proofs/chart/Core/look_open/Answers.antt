use Rattle.std.proofs.Common.{arith, sym, subst, ap, ◌∙◌, All, ◌<◌, length}
use Rattle.chart_core.specs.Grammar.{grammar_of}
use Rattle.chart_core.specs.View.{list_of, rows_of}
use Rattle.chart_core.specs.Tests.{IsLow}
use Rattle.chart_core.specs.Copies.{IsWholeAt, ArePartsOf}
use Rattle.chart_model.specs.Chart as model
use Rattle.chart_core.proofs.Copied.{tells}
use Rattle.chart_core.proofs.Looked.{hostless, no_cover, cover_small, mother_in}
use Rattle.chart_core.proofs.chart.Core.look_open.Goals as goal

pub tuple_of-requires-clause-whole : goal.tuple_of-requires-clause-whole
tuple_of-requires-clause-whole g c = subst (λ rs. All (IsWholeAt rs) (list_of c.args.daughters.now)) (sym c.deref.ensures.value) c.requires.open.wholes

pub arity-requires : goal.arity-requires
arity-requires g c =
    let s = c.args.shapes.now in
    (tells (grammar_of g.S.Shapes g.S.Cover.Cover s) (g.met.S.Shapes.laws s) c.args.self.now c.requires.core c.args._task.0 c.args.rule c.args.daughters.now c.in_ok-parts.parts c.requires.open
    (subst (λ rs. ArePartsOf (g.S.Shapes.belongs s) (g.S.Shapes.meaning s) rs c.args.daughters.now c.in_ok-parts.parts) c.deref.ensures.value c.in_ok-parts.ensures)).1.rule_is

pub outcome_of-requires : goal.outcome_of-requires
outcome_of-requires g c =
    let s = c.args.shapes.now in
    (tells (grammar_of g.S.Shapes g.S.Cover.Cover s) (g.met.S.Shapes.laws s) c.args.self.now c.requires.core c.args._task.0 c.args.rule c.args.daughters.now c.in_ok-parts.parts c.requires.open
    (subst (λ rs. ArePartsOf (g.S.Shapes.belongs s) (g.S.Shapes.meaning s) rs c.args.daughters.now c.in_ok-parts.parts) c.deref.ensures.value c.in_ok-parts.ensures)).1

pub covers-requires : goal.covers-requires
covers-requires g c =
    let s = c.args.shapes.now in
    (tells (grammar_of g.S.Shapes g.S.Cover.Cover s) (g.met.S.Shapes.laws s) c.args.self.now c.requires.core c.args._task.0 c.args.rule c.args.daughters.now c.in_ok-parts.parts c.requires.open
    (subst (λ rs. ArePartsOf (g.S.Shapes.belongs s) (g.S.Shapes.meaning s) rs c.args.daughters.now c.in_ok-parts.parts) c.deref.ensures.value c.in_ok-parts.ensures)).1

pub returns-then-parts-arity : goal.returns-then-parts-arity
returns-then-parts-arity g c =
    let s = c.args.shapes.now in
    hostless (grammar_of g.S.Shapes g.S.Cover.Cover s) (g.met.S.Shapes.laws s) c.args.self.now c.requires.core c.args._task.0 c.args.rule c.args.daughters.now c.in_ok-parts.parts c.requires.open
    (subst (λ rs. ArePartsOf (g.S.Shapes.belongs s) (g.S.Shapes.meaning s) rs c.args.daughters.now c.in_ok-parts.parts) c.deref.ensures.value c.in_ok-parts.ensures)
    c.in_ok-outcome.outcome (subst (λ n. c.in_ok-parts.parts.count < n) c.arity.ensures c.if-parts-arity.true) c.in_ok-outcome.ensures.right c.in_ok-outcome.ensures.belongs

pub returns-in-None : goal.returns-in-None
returns-in-None g c =
    let s = c.args.shapes.now in
    no_cover (grammar_of g.S.Shapes g.S.Cover.Cover s) (g.met.S.Shapes.laws s) c.args.self.now c.requires.core c.args._task.0 c.args.rule c.args.daughters.now c.in_ok-parts.parts c.requires.open
    (subst (λ rs. ArePartsOf (g.S.Shapes.belongs s) (g.S.Shapes.meaning s) rs c.args.daughters.now c.in_ok-parts.parts) c.deref.ensures.value c.in_ok-parts.ensures)
    (sym c.in_ok-covers.ensures ∙ c.in-None.is)

pub size-requires : goal.size-requires
size-requires g c =
    let s = c.args.shapes.now in
    cover_small (grammar_of g.S.Shapes g.S.Cover.Cover s) (g.met.S.Shapes.laws s) c.args.self.now c.requires.core c.args._task.0 c.args.rule c.args.daughters.now c.in_ok-parts.parts c.requires.open
    (subst (λ rs. ArePartsOf (g.S.Shapes.belongs s) (g.S.Shapes.meaning s) rs c.args.daughters.now c.in_ok-parts.parts) c.deref.ensures.value c.in_ok-parts.ensures)
    g.S.Cover.Cover.extent (g.met.S.Shapes.sizes s) c.in-Some.cover (sym c.in_ok-covers.ensures ∙ c.in-Some.is)

pub level_over-requires-clause-in_range : goal.level_over-requires-clause-in_range
level_over-requires-clause-in_range g c = subst (λ rs. All (λ d. d < length rs) (list_of c.args.daughters.now)) (sym c.deref-in-Some.ensures.value) c.requires.open.in_range

pub level_over-requires-clause-low : goal.level_over-requires-clause-low
level_over-requires-clause-low g c = subst (λ rs. All (IsLow rs) (list_of c.args.daughters.now)) (sym c.deref-in-Some.ensures.value) c.requires.open.lows

pub returns : goal.returns
returns g c =
    let s = c.args.shapes.now in
    mother_in (grammar_of g.S.Shapes g.S.Cover.Cover s) (g.met.S.Shapes.laws s) c.args.self.now c.requires.core c.args._task.0 c.args.rule c.args.daughters.now c.in_ok-parts.parts c.requires.open
    (subst (λ rs. ArePartsOf (g.S.Shapes.belongs s) (g.S.Shapes.meaning s) rs c.args.daughters.now c.in_ok-parts.parts) c.deref.ensures.value c.in_ok-parts.ensures)
    g.S.Cover.Cover.extent (g.met.S.Shapes.sizes s) c.in-Some.cover (sym c.in_ok-covers.ensures ∙ c.in-Some.is)
    c.size.result c.level_over.result (λ p. let h = c.if-parts-arity.false in let n = c.arity.ensures in omega (arith, n, h)) c.size.ensures
    (c.level_over.ensures s ∙ ap (λ rs. model.level_above (model.levels_at (rows_of (g.S.Shapes.meaning s) rs) (list_of c.args.daughters.now))) c.deref-in-Some.ensures.value)
