use Rattle.std.proofs.Common.{refl, sym, ◌∙◌, arith}
use Rattle.fs_closing.proofs.ChainLemmas.{look_here, look_past, look_none}
use Rattle.fs_closing.proofs.cells.look_through.Goals as goal

pub returns-then-cell-feat : goal.returns-then-cell-feat
returns-then-cell-feat c =
    sym (look_here c.args.cells.now c.loop-place.place c.args.feat _ c.loop-place-test.true c.loop-place.invariant.within c.requires.falls
    refl c.if-cell-feat.true) ∙ c.loop-place.invariant.same

pub loop-place-preserved : goal.loop-place-preserved
loop-place-preserved c =
    let past = look_past c.args.cells.now c.loop-place.place c.args.feat _ c.loop-place-test.true c.loop-place.invariant.within
    c.requires.falls refl c.if-cell-feat.false in
    record { same = past.0 ∙ c.loop-place.invariant.same; within = past.2 }

pub loop-place-smaller : goal.loop-place-smaller
loop-place-smaller c =
    let past = look_past c.args.cells.now c.loop-place.place c.args.feat _ c.loop-place-test.true c.loop-place.invariant.within
    c.requires.falls refl c.if-cell-feat.false in
    past.1

pub returns : goal.returns
returns c =
    sym (look_none c.args.cells.now c.args.feat c.loop-place.place (omega (arith, c.loop-place-test.false))) ∙ c.loop-place.invariant.same
