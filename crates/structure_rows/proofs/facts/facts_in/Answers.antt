use Rattle.std.proofs.Common.{refl, subst, arith}
use Rattle.std.proofs.lemmas.List.Elements.{All-more}
use Rattle.fs_graph.specs.Facts.{claim_of}
use Rattle.fs_closing.specs.Rules.{IsClaimIn}
use Rattle.fs_unify.proofs.SampleLemmas.{at_end, claims_in}
use Rattle.structure_rows.proofs.facts.facts_in.Goals as goal

pub loop-fact-preserved : goal.loop-fact-preserved
loop-fact-preserved c =
    All-more (λ x. IsClaimIn c.args.types c.args.feats (claim_of x)) c.args.facts.now c.loop-fact.fact-index c.fact-item.result c.loop-fact-test.true
    c.loop-fact.invariant (subst (λ x. IsClaimIn c.args.types c.args.feats (claim_of x)) c.fact-item.is (c.if-not-fact_in.ensures refl))

pub returns : goal.returns
returns c = λ _.
    claims_in c.args.types c.args.feats c.args.facts.now
    (at_end (λ x. IsClaimIn c.args.types c.args.feats (claim_of x)) c.args.facts.now c.loop-fact.fact-index (omega (arith, c.loop-fact-test.false)) c.loop-fact.invariant)
