use Rattle.std.proofs.Common.{sym, ◌∙◌, ap}
use Rattle.type_hierarchy.proofs.ListLemmas.{list_any-map, any_here, any_next, any_end}
use Rattle.fs_graph.specs.declared.facts.Fact.{Fact}
use Rattle.fs_graph.specs.Facts.{path_of, claim_of}
use Rattle.fs_unify.specs.Owing.{speaks_of}
use Rattle.fs_unify.proofs.owed.one_speaks_of.Goals as goal

pub returns-then-speaks_of : goal.returns-then-speaks_of
returns-then-speaks_of c =
    let test = λ (x : Fact). speaks_of (path_of c.args.at_root.now) (path_of c.args.anywhere.now) (claim_of x) in
    sym (list_any-map (speaks_of (path_of c.args.at_root.now) (path_of c.args.anywhere.now)) claim_of c.args.facts.now
    ∙ any_here test c.args.facts.now c.loop-fact.fact-index c.fact-item.result c.loop-fact-test.true c.loop-fact.invariant
    (ap test (sym c.fact-item.is) ∙ sym c.speaks_of.ensures ∙ c.if-speaks_of.true))

pub loop-fact-preserved : goal.loop-fact-preserved
loop-fact-preserved c =
    let test = λ (x : Fact). speaks_of (path_of c.args.at_root.now) (path_of c.args.anywhere.now) (claim_of x) in
    any_next test c.args.facts.now c.loop-fact.fact-index c.fact-item.result c.loop-fact-test.true c.loop-fact.invariant
    (ap test (sym c.fact-item.is) ∙ sym c.speaks_of.ensures ∙ c.if-speaks_of.false)

pub returns : goal.returns
returns c =
    let test = λ (x : Fact). speaks_of (path_of c.args.at_root.now) (path_of c.args.anywhere.now) (claim_of x) in
    sym (list_any-map (speaks_of (path_of c.args.at_root.now) (path_of c.args.anywhere.now)) claim_of c.args.facts.now
    ∙ any_end test c.args.facts.now c.loop-fact.fact-index c.loop-fact-test.false c.loop-fact.invariant)
