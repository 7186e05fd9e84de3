use Rattle.std.proofs.Common.{◌≡◌, ◌∙◌, ◌<◌, ◌+◌, refl, sym, ap, drop, arith, length, slice_index_or, add-one, drop-cons, ◌∷◌}
use Rattle.std.proofs.lemmas.List.{drop_all}
use Rattle.chart_core.specs.View.{into_of, write_all}
use Rattle.chart_core.proofs.Frost.{kept_length}
use Rattle.chart_core.proofs.Frozen.{into_set, keep_set}
use Rattle.chart_core.proofs.search.freeze.Goals as goal

pub index_mut-row-requires : goal.index_mut-row-requires
index_mut-row-requires g c =
    let same = kept_length c.args.rows.now.items c.loop-place.rows.items c.loop-place.invariant.rows in
    let h = c.requires c.loop-place.place-index 0 c.loop-place-test.true in
    omega (arith, h, same)

pub loop-place-init : goal.loop-place-init
loop-place-init g c = record { into = refl; rows = refl; room = refl }

pub loop-place-preserved : goal.loop-place-preserved
loop-place-preserved g c =
    let rows = c.loop-place.rows.items in
    let places = c.args.places.now in
    let i = c.loop-place.place-index in
    let p = slice_index_or places i 0 in
    let row = c.index_mut-row.result.now in
    let in_loop = c.loop-place-test.true in
    let next : drop i places ≡ p ∷ drop (i + 1) places = rw (add-one, drop-cons places i 0 in_loop) refl in
    let same = kept_length c.args.rows.now.items rows c.loop-place.invariant.rows in
    let below : p < length rows = let h = c.requires i 0 in_loop in omega (arith, h, same) in
    record {
      into = ap (λ xs. write_all xs (drop (i + 1) places) c.args.number) (into_set rows p c.args.number row) ∙ ap (λ ps. write_all (into_of rows) ps c.args.number) (sym next) ∙ c.loop-place.invariant.into;
      rows = c.loop-place.invariant.rows ∙ keep_set rows p c.args.number row below c.index_mut-row.ensures.value;
      room = c.loop-place.invariant.room;
    }

pub returns-clause-into : goal.returns-clause-into
returns-clause-into g c = ap (λ ps. write_all (into_of c.loop-place.rows.items) ps c.args.number) (sym (drop_all c.loop-place.place-index c.args.places.now (omega (arith, c.loop-place-test.false)))) ∙ c.loop-place.invariant.into

pub returns-clause-rows : goal.returns-clause-rows
returns-clause-rows g c = c.loop-place.invariant.rows
