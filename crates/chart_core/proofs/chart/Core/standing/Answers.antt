use Rattle.std.proofs.Common.{◌∙◌, ◌<◌, sym, ap, subst, All, length}
use Rattle.chart_model.specs.Chart as model
use Rattle.chart_core.specs.Grammar.{grammar_of}
use Rattle.chart_core.specs.View.{list_of, rows_of, into_of, task_of}
use Rattle.chart_core.specs.Tests.{TaskFits}
use Rattle.chart_core.proofs.Buckets.{get_here}
use Rattle.chart_core.proofs.Facts.{fits, in_range, lows, wholes}
use Rattle.chart_core.proofs.Stand.{stand_with, stand_skipped}
use Rattle.chart_core.proofs.chart.Core.standing.Goals as goal

pub daughters_of-daughters-requires-clause-fits : goal.daughters_of-daughters-requires-clause-fits
daughters_of-daughters-requires-clause-fits g c =
    let G = grammar_of g.S.Shapes g.S.Cover.Cover c.args._shapes.now in
    let core = c.args.self.now in
    let info = c.index-info.result.now in
    subst (λ rs. TaskFits rs info) (sym c.deref.ensures.value) (fits G (g.met.S.Shapes.laws c.args._shapes.now) core c.requires.core c.args.task.0 info (get_here core.tasks.items c.args.task.0 info c.requires.made c.index-info.ensures))

pub first_frosted-requires : goal.first_frosted-requires
first_frosted-requires g c =
    let G = grammar_of g.S.Shapes g.S.Cover.Cover c.args._shapes.now in
    let core = c.args.self.now in
    let info = c.index-info.result.now in
    let ds = list_of c.daughters_of-daughters.result in
    let same = c.daughters_of-daughters.ensures.list c.args._shapes.now ∙ ap (λ rs. model.daughters (rows_of G.meaning rs) (task_of info)) c.deref.ensures.value in
    subst (λ rs. All (λ d. d < length rs) ds) (sym c.deref-2.ensures.value) (in_range G (g.met.S.Shapes.laws c.args._shapes.now) core c.requires.core c.args.task.0 info ds (get_here core.tasks.items c.args.task.0 info c.requires.made c.index-info.ensures) same)

pub returns-in-None : goal.returns-in-None
returns-in-None g c =
    let G = grammar_of g.S.Shapes g.S.Cover.Cover c.args._shapes.now in
    let laws = g.met.S.Shapes.laws c.args._shapes.now in
    let core = c.args.self.now in
    let t = c.args.task.0 in
    let info = c.index-info.result.now in
    let ds = list_of c.daughters_of-daughters.result in
    let at = get_here core.tasks.items t info c.requires.made c.index-info.ensures in
    let same = c.daughters_of-daughters.ensures.list c.args._shapes.now ∙ ap (λ rs. model.daughters (rows_of G.meaning rs) (task_of info)) c.deref.ensures.value in
    let first = c.first_frosted.ensures ∙ ap (λ rs. model.first_frosted (into_of rs) ds) c.deref-2.ensures.value in
    record {
      with_these = stand_with G core t info at c.in_default.is ds same c.first_frosted.result first c.in-None.is;
      well = c.daughters_of-daughters.ensures.daughters;
      in_range = in_range G laws core c.requires.core t info ds at same;
      lows = lows G laws core c.requires.core t info ds at same;
      wholes = wholes G laws core c.requires.core t info ds at same;
    }

pub returns-in-Some-first_frosted : goal.returns-in-Some-first_frosted
returns-in-Some-first_frosted g c =
    let G = grammar_of g.S.Shapes g.S.Cover.Cover c.args._shapes.now in
    let core = c.args.self.now in
    let t = c.args.task.0 in
    let info = c.index-info.result.now in
    let ds = list_of c.daughters_of-daughters.result in
    let at = get_here core.tasks.items t info c.requires.made c.index-info.ensures in
    let same = c.daughters_of-daughters.ensures.list c.args._shapes.now ∙ ap (λ rs. model.daughters (rows_of G.meaning rs) (task_of info)) c.deref.ensures.value in
    let first = c.first_frosted.ensures ∙ ap (λ rs. model.first_frosted (into_of rs) ds) c.deref-2.ensures.value in
    stand_skipped G core t info at c.in_default.is ds same c.first_frosted.result first c.in-Some-first_frosted.row c.in-Some-first_frosted.is
