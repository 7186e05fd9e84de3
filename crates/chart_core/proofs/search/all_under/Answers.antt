use Rattle.std.proofs.Common.{◌≡◌, ◌∙◌, ◌+◌, ◌<◌, ◌++◌, [], ◌∷◌, sym, arith, get_or, length, subst, drop}
use Rattle.std.specs.List.{filter}
use Rattle.chart_core.specs.Tests.{at_place, is_peer}
use Rattle.chart_core.proofs.Scan.{place_is, filter_yes, filter_no}
use Rattle.chart_core.proofs.Buckets.{get_here}
use Rattle.chart_core.proofs.Host.{verdict_right}
use Rattle.chart_core.proofs.search.all_under.Goals as goal
use Rattle.chart_core.proofs.search.all_under.Goals.{then-branch+in_ok-push, else-branch}

pub loop-place-preserved : goal.loop-place-preserved
loop-place-preserved g c =
    let k = g.S.Shapes.calculus c.args.by.now.shapes.now in
    let m = g.S.Shapes.meaning c.args.by.now.shapes.now in
    let rows = c.args.rows.now in
    let places = c.args.places.now in
    let i = c.loop-place.place-index in
    let row = c.index-rows-place.result in
    let l : i < length places = omega arith in
    let below : get_or places i 0 < length rows = c.requires.places i 0 l in
    let at = place_is (is_peer k m (k.over (m c.args.by.now.shape.now)) c.args.by.now.cover.now c.args.by.now.level) rows (get_or places i 0) row below c.index-rows-place.is in
    let test = at_place (is_peer k m (k.over (m c.args.by.now.shape.now)) c.args.by.now.cover.now c.args.by.now.level) rows in
    let all = filter test places in
    elim c.if-branch.branch [
      | then-branch+in_ok-push w ↦
          (let e : c.if-branch.found.items ≡ c.loop-place.found.items ++ get_or places i 0 ∷ [] = let h = w.found-is in let x = w.in_ok-push.ensures.items in cc in
          subst (λ xs. xs ++ filter test (drop (i + 1) places) ≡ all) (sym e) (filter_yes test places c.loop-place.found.items all i l (at ∙ sym c.in_ok-is_under.ensures ∙ w.if-branch.true) c.loop-place.invariant))
      | else-branch w ↦
          (let e : c.if-branch.found.items ≡ c.loop-place.found.items = let h = w.found-is in cc in
          subst (λ xs. xs ++ filter test (drop (i + 1) places) ≡ all) (sym e) (filter_no test places c.loop-place.found.items all i l (at ∙ sym c.in_ok-is_under.ensures ∙ w.if-branch.false) c.loop-place.invariant))
    ]

pub is_under-requires-clause-verdict : goal.is_under-requires-clause-verdict
is_under-requires-clause-verdict g c =
    let rows = c.args.rows.now in
    let p = get_or c.args.places.now c.loop-place.place-index 0 in
    let below : p < length rows = c.requires.places c.loop-place.place-index 0 c.loop-place-test.true in
    verdict_right (g.S.Shapes.calculus c.args.by.now.shapes.now) (g.S.Shapes.meaning c.args.by.now.shapes.now) (g.S.Shapes.meaning c.args.by.now.shapes.now c.args.by.now.shape.now) rows c.args.by.now.tested.now _ p c.index-rows-place.result c.verdict_at-verdict.result c.requires.tested (get_here rows p c.index-rows-place.result below c.index-rows-place.is) c.verdict_at-verdict.ensures
