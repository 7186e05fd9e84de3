use Rattle.std.proofs.Common.{◌≡◌, ◌∙◌, ◌<◌, length, sym, ap, subst, All}
use Rattle.std.specs.List.{find}
use Rattle.chart_model.specs.Chart as model
use Rattle.chart_core.specs.Lists.{lists_of, bucket}
use Rattle.chart_core.specs.View.{rows_of, into_of}
use Rattle.chart_core.specs.Tests.{at_place, is_peer}
use Rattle.chart_core.proofs.Found.{all_at, if_ok, peers_found}
use Rattle.chart_core.proofs.chart.Core.peer_over.Goals as goal

pub first_over-requires-clause-places : goal.first_over-requires-clause-places
first_over-requires-clause-places g c =
    let core = c.args.self.now in
    let rows = core.rows.items in
    let ps = bucket (lists_of core.cells) c.cell.result in
    let all : All (λ p. p < length rows) ps = all_at (λ p. p < length rows) ps (λ n p a. c.requires.sound.sound.cells.inside _ n p a) in
    subst (λ rs. All (λ p. p < length rs) c.at-places.result.now) (sym c.deref.ensures.value) (subst (All (λ p. p < length rows)) (sym c.at-places.ensures) all)

pub returns : goal.returns
returns g c =
    let k = g.S.Shapes.calculus c.args.shapes.now in
    let m = g.S.Shapes.meaning c.args.shapes.now in
    let core = c.args.self.now in
    let rows = core.rows.items in
    let t = at_place (is_peer k m (λ h. k.over h (m c.args.shape.now)) c.args.cover.now c.args.level) in
    let found = peers_found k (g.met.S.Shapes.laws c.args.shapes.now) m (g.S.Cover.Cover.cell_of) rows (lists_of core.cells) c.requires.sound.sound.cells (λ h. k.over h (m c.args.shape.now)) c.args.cover.now c.args.level in
    if_ok (λ o. o ≡ find (t c.deref.result.now) c.at-places.result.now) (λ o. o ≡ model.first_peer k (model.has_peer k (λ h. k.over h (m c.args.shape.now)) c.args.cover.now c.args.level) 0 (rows_of m rows) (into_of rows)) c.first_over.result
    (λ o h. h ∙ ap (λ rs. find (t rs) c.at-places.result.now) c.deref.ensures.value ∙ ap (find (t rows)) (c.at-places.ensures ∙ ap (bucket (lists_of core.cells)) c.cell.ensures) ∙ found)
    c.first_over.ensures
