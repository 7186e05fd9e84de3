use Rattle.std.proofs.Common.{refl, sym, ◌∙◌}
use Rattle.fs_closing.proofs.ChainLemmas.{look_here, look_past}
use Rattle.fs_closing.proofs.cells.look_few.Goals as goal

pub returns-then-cell-feat : goal.returns-then-cell-feat
returns-then-cell-feat c =
    sym c.loop-left.invariant.same ∙ look_here c.args.cells.now c.loop-left.place c.args.feat _ c.if-place-eq0.false c.loop-left.invariant.within c.requires.falls
    refl c.if-cell-feat.true

pub loop-left-preserved : goal.loop-left-preserved
loop-left-preserved c =
    let past = look_past c.args.cells.now c.loop-left.place c.args.feat _ c.if-place-eq0.false c.loop-left.invariant.within
    c.requires.falls refl c.if-cell-feat.false in
    record { same = past.0 ∙ c.loop-left.invariant.same; within = past.2 }
