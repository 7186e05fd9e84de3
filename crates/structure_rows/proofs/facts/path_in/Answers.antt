use Rattle.std.proofs.Common.{◌<◌, arith}
use Rattle.std.proofs.lemmas.List.Elements.{All-more, All-map}
use Rattle.fs_unify.proofs.SampleLemmas.{at_end}
use Rattle.structure_rows.proofs.facts.path_in.Goals as goal

pub loop-feat-preserved : goal.loop-feat-preserved
loop-feat-preserved c =
    All-more (λ f. f.0 < c.args.feats) c.args.path.now c.loop-feat.feat-index (record { 0 = 0 }) c.loop-feat-test.true c.loop-feat.invariant
    (omega (arith, c.if-feat-feats.false))

pub returns : goal.returns
returns c = λ _.
    All-map (λ f. f < c.args.feats) (λ f. f.0) c.args.path.now
    (at_end (λ f. f.0 < c.args.feats) c.args.path.now c.loop-feat.feat-index (omega (arith, c.loop-feat-test.false)) c.loop-feat.invariant)
