use Rattle.std.proofs.Common.{◌≡◌, ◌∙◌, ◌+◌, ◌<◌, ◌++◌, [], ◌∷◌, sym, arith, get_or, length, subst, drop, map, All, Some, None, slice_get}
use Rattle.std.proofs.lemmas.Grind.{common_steps}
use Rattle.chart_model.specs.Chart as model
use Rattle.chart_model.specs.Picked.{picked}
use Rattle.chart_core.specs.declared.history.TaskRow.{TaskRow}
use Rattle.chart_core.specs.View.{row_of, rows_of, into_of, task_of, write_all}
use Rattle.chart_core.proofs.Picks.{row_got, pick_some, pick_none, partial_test}
use Rattle.chart_core.proofs.search.host_pairs.Goals as goal
use Rattle.chart_core.proofs.search.host_pairs.Goals.{in-Some+in_ok-push, in_default}

pub loop-place-preserved : goal.loop-place-preserved
loop-place-preserved g c =
    let k = g.S.Shapes.calculus c.args.shapes.now in
    let m = g.S.Shapes.meaning c.args.shapes.now in
    let rows = c.args.rows.now in
    let places = c.args.places.now in
    let i = c.loop-place.place-index in
    let p = get_or places i 0 in
    let row = c.index-rows-place.result in
    let f = model.host_task k (write_all (into_of rows) c.args.frosted.now c.args.number) c.args.cover.now c.args.number in
    let get = slice_get (rows_of m rows) in
    let l : i < length places = omega arith in
    let below : p < length rows = c.requires.places i 0 l in
    let is = row_got m rows p row below c.index-rows-place.is in
    let all = picked k f get places in
    let next = picked k f get (drop (i + 1) places) in
    elim c.match-left_partner.branch [
      | in-Some+in_ok-push w ↦
          (let t : TaskRow = record { rule = w.in-Some.rule; partial = Some (record { 0 = p }); host = record { 0 = c.args.number }; done = None } in
          let e : c.match-left_partner.found.items ≡ c.loop-place.found.items ++ t ∷ [] = let h = w.found-is in let x = w.in_ok-push.ensures.items in cc in
          let gives = partial_test k m (write_all (into_of rows) c.args.frosted.now c.args.number) c.args.cover.now c.args.number p row (Some w.in-Some.rule) (sym (c.left_partner.ensures c.args.number) ∙ w.in-Some.is) in
          record { fresh = subst (All (λ t. t.done ≡ None)) (sym e) (grind (arith, common_steps, c.loop-place.invariant.fresh)); pairs = subst (λ xs. map task_of xs ++ next ≡ all) (sym e) (pick_some k f get places i (row_of m row) c.loop-place.found.items t all l is gives c.loop-place.invariant.pairs) })
      | in_default w ↦
          (let e : c.match-left_partner.found.items ≡ c.loop-place.found.items = let h = w.found-is in cc in
          let gives = partial_test k m (write_all (into_of rows) c.args.frosted.now c.args.number) c.args.cover.now c.args.number p row None (sym (c.left_partner.ensures c.args.number) ∙ w.in_default.is) in
          record { fresh = subst (All (λ t. t.done ≡ None)) (sym e) c.loop-place.invariant.fresh; pairs = subst (λ xs. map task_of xs ++ next ≡ all) (sym e) (pick_none k f get places i (row_of m row) c.loop-place.found.items all l is gives c.loop-place.invariant.pairs) })
    ]
