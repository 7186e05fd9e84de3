use Rattle.std.proofs.Common.{◌≤◌, length, get_or, arith}
use Rattle.std.proofs.lemmas.List.{get_or_default}
use Rattle.scope_model.specs.declared.Opening.{Opening}
use Rattle.scope_resolve.proofs.Seeing.{begun_first, begun_more, begun_end}
use Rattle.scope_resolve.proofs.ways.begin.Goals as goal

pub loop-place-init : goal.loop-place-init
loop-place-init c = begun_first c.args.net.now.is_body.items c.args.opens.now _ _ _

pub loop-place-preserved : goal.loop-place-preserved
loop-place-preserved c =
    let x : Opening = get_or c.args.opens.now c.loop-place.place (record { label = 0; hole = 0 }) in
    begun_more c.args.net.now.is_body.items c.args.opens.now c.loop-place.place x c.loop-place.below.items c.begin_at.new.below.items c.loop-place.under.items c.begin_at.new.under.items
    c.loop-place.chain.items c.begin_at.new.chain.items (get_or_default c.args.opens.now c.loop-place.place (record { label = 0; hole = 0 }) x c.loop-place-test.true)
    c.begin_at.ensures.below c.begin_at.ensures.under c.begin_at.ensures.chain c.begin_at.ensures.hole c.begin_at.ensures.label c.begin_at.ensures.body c.loop-place.invariant

pub returns : goal.returns
returns c =
    let l : length c.args.opens.now ≤ c.loop-place.place = omega (arith, c.loop-place-test.false) in
    begun_end c.args.net.now.is_body.items c.args.opens.now c.loop-place.place c.loop-place.below.items c.loop-place.under.items c.loop-place.chain.items l c.loop-place.invariant
