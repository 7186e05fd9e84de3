use Rattle.std.proofs.Common.{◌<◌, arith}
use Rattle.std.proofs.lemmas.List.Elements.{All-more}
use Rattle.fs_unify.proofs.SampleLemmas.{at_end}
use Rattle.structure_rows.proofs.sample.are_types.Goals as goal

pub loop-ty-preserved : goal.loop-ty-preserved
loop-ty-preserved c =
    All-more (λ t. t.0 < c.args.count) c.args.types.now c.loop-ty.ty-index (record { 0 = 0 }) c.loop-ty-test.true c.loop-ty.invariant
    (omega (arith, c.if-ty-count.false))

pub returns : goal.returns
returns c = λ _.
    at_end (λ t. t.0 < c.args.count) c.args.types.now c.loop-ty.ty-index (omega (arith, c.loop-ty-test.false)) c.loop-ty.invariant
