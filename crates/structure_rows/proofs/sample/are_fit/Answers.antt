use Rattle.std.proofs.Common.{refl, subst, arith}
use Rattle.std.proofs.lemmas.List.Elements.{All-more}
use Rattle.fs_unify.proofs.SampleLemmas.{at_end, IsFit}
use Rattle.structure_rows.proofs.sample.are_fit.Goals as goal

pub loop-facts-preserved : goal.loop-facts-preserved
loop-facts-preserved c =
    All-more (IsFit c.args.types.now) c.args.constraints.now c.loop-facts.facts-index c.facts-item.result c.loop-facts-test.true c.loop-facts.invariant
    (subst (IsFit c.args.types.now) c.facts-item.is (c.if-not-is_fit.ensures refl))

pub returns : goal.returns
returns c = λ _.
    at_end (IsFit c.args.types.now) c.args.constraints.now c.loop-facts.facts-index (omega (arith, c.loop-facts-test.false)) c.loop-facts.invariant
