use Rattle.std.proofs.Common.{slice_index_or, arith, subst, sym}
use Rattle.std.proofs.lemmas.List.{get_or_read}
use Rattle.fs_model.specs.Claims.{Has}
use Rattle.fs_graph.specs.declared.facts.Fact.{Fact}
use Rattle.fs_graph.specs.Facts.{claim_of}
use Rattle.fs_closing.proofs.HasLemmas.{Has-at, Has-map, Has-of_map}
use Rattle.forced_types.specs.Inner.Closed.{HoldsAt}
use Rattle.forced_types.proofs.TypeLemmas.{at_every, one_more}
use Rattle.forced_types.proofs.nodes.Nodes.holds_rule.Goals as goal

pub holds-requires-clause-inside : goal.holds-requires-clause-inside
holds-requires-clause-inside c =
    let fact = c.index-facts-k.result in
    let listed : Has fact c.facts-facts.result.now =
    subst (λ (x : Fact). Has x c.facts-facts.result.now) (sym c.index-facts-k.is) (Has-at c.facts-facts.result.now c.loop-k.k fact (omega (arith, c.loop-k-test.true))) in
    c.facts-facts.ensures.within (claim_of fact) (Has-map claim_of fact c.facts-facts.result.now listed)

pub loop-k-preserved : goal.loop-k-preserved
loop-k-preserved c = λ j h d.
    let g = c.args.given.system.now.types in
    let t = c.args.self.now in
    let is = get_or_read c.facts-facts.result.now c.loop-k.k c.index-facts-k.result (omega (arith, c.loop-k-test.true)) c.index-facts-k.is d in
    one_more (λ j. HoldsAt g t c.args.n c.args.left (claim_of (slice_index_or c.facts-facts.result.now j d))) c.loop-k.k (λ i b. c.loop-k.invariant i b d)
    (subst (λ (x : Fact). HoldsAt g t c.args.n c.args.left (claim_of x)) is (c.holds.ensures c.if-not-holds.false)) j h

pub returns : goal.returns
returns c = λ _ e h.
    let g = c.args.given.system.now.types in
    let t = c.args.self.now in
    let r = Has-of_map claim_of e c.facts-facts.result.now (subst (Has e) (sym c.facts-facts.ensures.value) h) in
    let all = at_every c.facts-facts.result.now (λ (x : Fact). HoldsAt g t c.args.n c.args.left (claim_of x)) r.0 (λ k i. c.loop-k.invariant k (omega (arith, c.loop-k-test.false)) r.0) in
    subst (HoldsAt g t c.args.n c.args.left) (sym r.2) (all r.0 r.1)
