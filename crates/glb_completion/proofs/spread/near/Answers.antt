use Rattle.std.proofs.Common.{◌<◌, ◌-◌, length, subst, sym, refl, arith}
use Rattle.type_hierarchy.specs.Bits.{IsRow}
use Rattle.type_hierarchy.proofs.TypeLemmas.{row_at_is}
use Rattle.glb_completion.specs.Inner.Growing.{IsUpRow}
use Rattle.glb_completion.proofs.GrowingLemmas.{row_seen}
use Rattle.glb_completion.proofs.SpreadLemmas.{nearing_starts, nearer, near_of}
use Rattle.glb_completion.proofs.spread.near.Goals as goal

pub loop-x-init : goal.loop-x-init
loop-x-init c = record {
  within = omega (arith, c.count-x.ensures.count);
  row = subst (λ n. IsRow n c.in_ok-near.near.items) c.count-x.ensures.count c.in_ok-near.ensures.row;
  nearing = nearing_starts c.args.h.now c.args.set.now c.in_ok-near.near.items c.count-x.result c.count-x.ensures.count c.in_ok-near.ensures.none;
}

pub loop-x-preserved-then-not-has : goal.loop-x-preserved-then-not-has
loop-x-preserved-then-not-has c =
    let x = c.loop-x.x - 1 in
    let x_in : x < c.args.h.now.written = omega (arith, c.loop-x-test.true, c.loop-x.invariant.within) in
    let in_above : x < length c.args.above.now = omega (arith, x_in, c.requires.enough) in
    let seen = row_seen c.args.above.now c.args.above.now x c.index-above-x.result c.deref-then-not-has.result.now refl in_above c.index-above-x.is c.deref-then-not-has.ensures.value in
    record {
      within = omega (arith, c.loop-x.invariant.within);
      row = c.extend.ensures.row c.args.h.now.written c.loop-x.invariant.row (subst (IsRow c.args.h.now.written) (sym seen) (row_at_is c.args.h.now.written c.args.above.now x c.requires.rows in_above));
      nearing = nearer c.args.h.now c.count-x.ensures.laws c.args.set.now c.loop-x.near.items c.deref-then-not-has.result.now c.extend.new.row.items c.loop-x.x x (omega (arith, c.loop-x-test.true)) x_in c.loop-x.invariant.nearing
          (subst (IsUpRow c.args.h.now x) (sym seen) (c.requires.up x x_in)) c.extend.ensures.has;
    }

pub returns : goal.returns
returns c = record {
  row = c.loop-x.invariant.row;
  near = near_of c.args.h.now c.args.set.now c.loop-x.near.items c.loop-x.x (omega (arith, c.loop-x-test.false)) c.loop-x.invariant.nearing;
}
