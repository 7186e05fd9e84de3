use Rattle.std.proofs.Common.{◌≡◌, ◌∙◌, ◌+◌, ◌<◌, ◌++◌, [], ◌∷◌, sym, ap, arith, get_or, length, subst, drop, map, All, true}
use Rattle.std.specs.List.{filter}
use Rattle.std.proofs.lemmas.List.{map-append}
use Rattle.chart_core.specs.declared.Peer.{Peer}
use Rattle.chart_core.specs.Tests.{at_place, is_peer}
use Rattle.chart_core.specs.Copies.{IsCopy}
use Rattle.chart_core.proofs.Buckets.{get_here}
use Rattle.chart_core.proofs.Scan.{place_is, filter_yes, filter_no}
use Rattle.chart_core.proofs.Grows.{all_snoc}
use Rattle.chart_core.proofs.Partner.{no_shape_no_peer}
use Rattle.chart_core.proofs.search.peers_at.Goals as goal
use Rattle.chart_core.proofs.search.peers_at.Goals.{then-is_live+in-Some+in_ok-shape+in_ok-push, then-is_live+in_default, else-is_live}

pub loop-place-preserved : goal.loop-place-preserved
loop-place-preserved g c =
    let k = g.S.Shapes.calculus c.args.shapes.now in
    let m = g.S.Shapes.meaning c.args.shapes.now in
    let rows = c.args.rows.now in
    let places = c.args.places.now in
    let i = c.loop-place.place-index in
    let p = get_or places i 0 in
    let row = c.index-rows-place.result in
    let l : i < length places = omega arith in
    let below : p < length rows = c.requires.places i 0 l in
    let at = place_is (is_peer k m (λ _. true) c.args.cover.now c.args.level) rows p row below c.index-rows-place.is in
    let test = at_place (is_peer k m (λ _. true) c.args.cover.now c.args.level) rows in
    let all = filter test places in
    let number : Peer g.row.S.Denot g.row.S-Shape.Denot g.row.S-Cover.Denot g.row.S-Work.Denot g.row.S-Cover-Bound.Denot → Rattle.std.specs.Prelude.ℕ = λ x. x.row.0 in
    let Copies = All (λ (x : Peer g.row.S.Denot g.row.S-Shape.Denot g.row.S-Cover.Denot g.row.S-Work.Denot g.row.S-Cover-Bound.Denot). IsCopy (g.S.Shapes.belongs c.args.shapes.now) m rows x.row.0 x.shape) in
    elim c.if-is_live.branch [
      | then-is_live+in-Some+in_ok-shape+in_ok-push w ↦
          (let t : Peer g.row.S.Denot g.row.S-Shape.Denot g.row.S-Cover.Denot g.row.S-Work.Denot g.row.S-Cover-Bound.Denot = record { row = record { 0 = p }; shape = w.in_ok-shape.shape } in
          let e : c.if-is_live.found.items ≡ c.loop-place.found.items ++ t ∷ [] = let h = w.found-is in let x = w.in_ok-push.ensures.items in cc in
          let shared = w.in_ok-shape.ensures in
          record {
            rows = subst (λ xs. map number xs ++ filter test (drop (i + 1) places) ≡ all) (sym e)
                (ap (λ xs. xs ++ filter test (drop (i + 1) places)) (map-append number c.loop-place.found.items (t ∷ []))
                ∙ filter_yes test places (map number c.loop-place.found.items) all i l (at ∙ sym c.is_live.ensures ∙ w.if-is_live.true) c.loop-place.invariant.rows);
            copies = subst Copies (sym e) (all_snoc (λ (x : Peer g.row.S.Denot g.row.S-Shape.Denot g.row.S-Cover.Denot g.row.S-Work.Denot g.row.S-Cover-Bound.Denot). IsCopy (g.S.Shapes.belongs c.args.shapes.now) m rows x.row.0 x.shape) c.loop-place.found.items t c.loop-place.invariant.copies
                (record { row = row; at = get_here rows p row below c.index-rows-place.is; shape = w.in-Some.shape; shape_is = w.in-Some.is; same = shared.1; belongs_too = shared.0 }));
          })
      | then-is_live+in_default w ↦ absurd (no_shape_no_peer k m (λ _. true) c.args.cover.now c.args.level row w.in_default.is (sym c.is_live.ensures ∙ w.if-is_live.true))
      | else-is_live w ↦
          (let e : c.if-is_live.found.items ≡ c.loop-place.found.items = let h = w.found-is in cc in
          record {
            rows = subst (λ xs. map number xs ++ filter test (drop (i + 1) places) ≡ all) (sym e) (filter_no test places (map number c.loop-place.found.items) all i l (at ∙ sym c.is_live.ensures ∙ w.if-is_live.false) c.loop-place.invariant.rows);
            copies = subst Copies (sym e) c.loop-place.invariant.copies;
          })
    ]
