use Rattle.std.proofs.Common.{◌≡◌, ◌∙◌, ◌+◌, ◌<◌, ◌++◌, [], ◌∷◌, refl, sym, arith, get_or, length, subst, drop, true, false, map, All, Some, None, slice_get}
use Rattle.chart_model.specs.Chart as model
use Rattle.chart_model.specs.Picked.{picked}
use Rattle.chart_core.specs.declared.history.TaskRow.{TaskRow}
use Rattle.chart_core.specs.View.{row_of, rows_of, into_of, task_of}
use Rattle.chart_core.proofs.Grows.{all_snoc}
use Rattle.chart_core.proofs.Picks.{row_got, pick_some, pick_none, host_test}
use Rattle.chart_core.proofs.search.partial_pairs.Goals as goal
use Rattle.chart_core.proofs.search.partial_pairs.Goals.{then-is_right_partner+in_ok-push, else-is_right_partner}

pub loop-place-preserved : goal.loop-place-preserved
loop-place-preserved g c =
    let k = g.S.Shapes.calculus c.args.shapes.now in
    let m = g.S.Shapes.meaning c.args.shapes.now in
    let rows = c.args.rows.now in
    let places = c.args.places.now in
    let i = c.loop-place.place-index in
    let p = get_or places i 0 in
    let row = c.index-rows-place.result in
    let f = model.partial_task k c.args.unary (into_of rows) c.args.new.now.rule c.args.new.now.cover.now c.args.new.now.number in
    let get = slice_get (rows_of m rows) in
    let l : i < length places = omega arith in
    let below : p < length rows = c.requires.places i 0 l in
    let is = row_got m rows p row below c.index-rows-place.is in
    let all = picked k f get places in
    let next = picked k f get (drop (i + 1) places) in
    elim c.if-is_right_partner.branch [
      | then-is_right_partner+in_ok-push w ↦
          (let t : TaskRow = record { rule = c.args.new.now.rule; partial = Some (record { 0 = c.args.new.now.number }); host = record { 0 = p }; done = None } in
          let e : c.if-is_right_partner.found.items ≡ c.loop-place.found.items ++ t ∷ [] = let h = w.found-is in let x = w.in_ok-push.ensures.items in cc in
          let gives = host_test k m rows c.args.unary c.args.new.now.rule c.args.new.now.number p c.args.new.now.cover.now row true below c.index-rows-place.is (sym c.is_right_partner.ensures ∙ w.if-is_right_partner.true) in
          record { fresh = subst (All (λ t. t.done ≡ None)) (sym e) (all_snoc (λ t. t.done ≡ None) c.loop-place.found.items t c.loop-place.invariant.fresh refl); pairs = subst (λ xs. map task_of xs ++ next ≡ all) (sym e) (pick_some k f get places i (row_of m row) c.loop-place.found.items t all l is gives c.loop-place.invariant.pairs) })
      | else-is_right_partner w ↦
          (let e : c.if-is_right_partner.found.items ≡ c.loop-place.found.items = let h = w.found-is in cc in
          let gives = host_test k m rows c.args.unary c.args.new.now.rule c.args.new.now.number p c.args.new.now.cover.now row false below c.index-rows-place.is (sym c.is_right_partner.ensures ∙ w.if-is_right_partner.false) in
          record { fresh = subst (All (λ t. t.done ≡ None)) (sym e) c.loop-place.invariant.fresh; pairs = subst (λ xs. map task_of xs ++ next ≡ all) (sym e) (pick_none k f get places i (row_of m row) c.loop-place.found.items all l is gives c.loop-place.invariant.pairs) })
    ]
