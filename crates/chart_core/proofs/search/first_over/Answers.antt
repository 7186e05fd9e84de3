use Rattle.std.proofs.Common.{◌∙◌, ◌<◌, sym, arith, get_or, length}
use Rattle.chart_core.specs.Tests.{at_place, is_peer}
use Rattle.chart_core.proofs.Scan.{place_is, find_yes, find_no}
use Rattle.chart_core.proofs.Buckets.{get_here}
use Rattle.chart_core.proofs.Host.{verdict_right}
use Rattle.chart_core.proofs.search.first_over.Goals as goal

pub returns-then-branch : goal.returns-then-branch
returns-then-branch g c =
    let k = g.S.Shapes.calculus c.args.by.now.shapes.now in
    let m = g.S.Shapes.meaning c.args.by.now.shapes.now in
    let rows = c.args.rows.now in
    let places = c.args.places.now in
    let i = c.loop-place.place-index in
    let row = c.index-rows-place.result in
    let l : i < length places = omega arith in
    let below : get_or places i 0 < length rows = c.requires.places i 0 l in
    let at = place_is (is_peer k m (λ h. k.over h (m c.args.by.now.shape.now)) c.args.by.now.cover.now c.args.by.now.level) rows (get_or places i 0) row below c.index-rows-place.is in
    sym (find_yes (at_place (is_peer k m (λ h. k.over h (m c.args.by.now.shape.now)) c.args.by.now.cover.now c.args.by.now.level) rows) places i l (at ∙ sym c.in_ok-is_over.ensures ∙ c.if-branch.true) c.loop-place.invariant)

pub loop-place-preserved : goal.loop-place-preserved
loop-place-preserved g c =
    let k = g.S.Shapes.calculus c.args.by.now.shapes.now in
    let m = g.S.Shapes.meaning c.args.by.now.shapes.now in
    let rows = c.args.rows.now in
    let places = c.args.places.now in
    let i = c.loop-place.place-index in
    let row = c.index-rows-place.result in
    let l : i < length places = omega arith in
    let below : get_or places i 0 < length rows = c.requires.places i 0 l in
    let at = place_is (is_peer k m (λ h. k.over h (m c.args.by.now.shape.now)) c.args.by.now.cover.now c.args.by.now.level) rows (get_or places i 0) row below c.index-rows-place.is in
    find_no (at_place (is_peer k m (λ h. k.over h (m c.args.by.now.shape.now)) c.args.by.now.cover.now c.args.by.now.level) rows) places i l (at ∙ sym c.in_ok-is_over.ensures ∙ c.if-branch.false) c.loop-place.invariant

pub is_over-requires-clause-verdict : goal.is_over-requires-clause-verdict
is_over-requires-clause-verdict g c =
    let rows = c.args.rows.now in
    let p = get_or c.args.places.now c.loop-place.place-index 0 in
    let below : p < length rows = c.requires.places c.loop-place.place-index 0 c.loop-place-test.true in
    verdict_right (g.S.Shapes.calculus c.args.by.now.shapes.now) (g.S.Shapes.meaning c.args.by.now.shapes.now) (g.S.Shapes.meaning c.args.by.now.shapes.now c.args.by.now.shape.now) rows c.args.by.now.tested.now _ p c.index-rows-place.result c.verdict_at-verdict.result c.requires.tested (get_here rows p c.index-rows-place.result below c.index-rows-place.is) c.verdict_at-verdict.ensures
