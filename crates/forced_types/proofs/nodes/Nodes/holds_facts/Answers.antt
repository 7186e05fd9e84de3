use Rattle.std.proofs.Common.{slice_index_or, arith, subst, sym}
use Rattle.fs_graph.specs.declared.facts.Fact.{Fact}
use Rattle.fs_graph.specs.Facts.{claim_of}
use Rattle.fs_closing.proofs.HasLemmas.{Has-of_map}
use Rattle.forced_types.specs.Inner.Closed.{HoldsAt}
use Rattle.forced_types.specs.Inner.Sound.{most_of}
use Rattle.forced_types.proofs.TypeLemmas.{at_every, one_more}
use Rattle.forced_types.proofs.nodes.Nodes.holds_facts.Goals as goal

pub loop-k-preserved : goal.loop-k-preserved
loop-k-preserved c = λ j h d.
    let g = c.args.given in
    one_more (λ j. HoldsAt g.system.now.types c.args.self.now 0 (most_of g) (claim_of (slice_index_or g.facts.now j d))) c.loop-k.k
    (λ i b. c.loop-k.invariant i b d) (c.holds_fact.ensures c.if-not-holds_fact.false d) j h

pub returns : goal.returns
returns c = λ _ e h.
    let g = c.args.given in
    let holds = HoldsAt g.system.now.types c.args.self.now 0 (most_of g) in
    let r = Has-of_map claim_of e g.facts.now h in
    let all = at_every g.facts.now (λ (x : Fact). holds (claim_of x)) r.0 (λ k i. c.loop-k.invariant k (omega (arith, c.loop-k-test.false)) r.0) in
    subst holds (sym r.2) (all r.0 r.1)
