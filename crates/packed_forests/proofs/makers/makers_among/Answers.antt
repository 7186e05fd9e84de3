use Rattle.std.proofs.Common.{◌≡◌, ℕ, ◌∙◌, ◌+◌, ◌<◌, ◌++◌, [], ◌∷◌, sym, ap, arith, get_or, length, subst, drop, map}
use Rattle.std.specs.List.{filter}
use Rattle.std.proofs.lemmas.List.{map-append}
use Rattle.chart_core.specs.declared.RowId.{RowId}
use Rattle.chart_core.specs.Kept.{core_of, rows_in}
use Rattle.chart_core.proofs.Scan.{filter_yes, filter_no}
use Rattle.packed_forests.specs.Inner.Told.{makes}
use Rattle.packed_forests.proofs.makers.makers_among.Goals as goal
use Rattle.packed_forests.proofs.makers.makers_among.Goals.{then-branch+in_ok-push, else-branch}

pub loop-place-preserved : goal.loop-place-preserved
loop-place-preserved g c =
    let t = makes (g.S.Shapes.calculus c.args.shapes.now) (g.S.Shapes.meaning c.args.shapes.now) (rows_in (core_of c.args.finished.now)) c.args.host.0 in
    let places = c.args.places.now in
    let i = c.loop-place.place-index in
    let p = get_or places i 0 in
    let l : i < length places = omega arith in
    let all = filter t places in
    let number : RowId → ℕ = λ r. r.0 in
    elim c.if-branch.branch [
      | then-branch+in_ok-push w ↦
          (let r : RowId = record { 0 = p } in
          let e : c.if-branch.makers.items ≡ c.loop-place.makers.items ++ r ∷ [] = let h = w.makers-is in let x = w.in_ok-push.ensures.items in cc in
          subst (λ xs. map number xs ++ filter t (drop (i + 1) places) ≡ all) (sym e)
          (ap (λ xs. xs ++ filter t (drop (i + 1) places)) (map-append number c.loop-place.makers.items (r ∷ []))
          ∙ filter_yes t places (map number c.loop-place.makers.items) all i l (sym c.in_ok-is_maker.ensures ∙ w.if-branch.true) c.loop-place.invariant))
      | else-branch w ↦
          (let e : c.if-branch.makers.items ≡ c.loop-place.makers.items = let h = w.makers-is in cc in
          subst (λ xs. map number xs ++ filter t (drop (i + 1) places) ≡ all) (sym e) (filter_no t places (map number c.loop-place.makers.items) all i l (sym c.in_ok-is_maker.ensures ∙ w.if-branch.false) c.loop-place.invariant))
    ]
