use Rattle.std.proofs.Common.{arith, sym, subst, get_or, ◌∙◌}
use Rattle.std.proofs.lemmas.List.{get_or_read}
use Rattle.fs_graph.specs.declared.facts.Fact.{Fact}
use Rattle.fs_graph.specs.Facts.{claim_of}
use Rattle.fs_closing.proofs.HasLemmas.{Has-at, Has-map}
use Rattle.forced_types.specs.Inner.Closed.{HoldsAt}
use Rattle.forced_types.specs.Inner.Sound.{most_of}
use Rattle.forced_types.proofs.SoundLemmas.{entry_count}
use Rattle.forced_types.proofs.nodes.Nodes.holds_fact.Goals as goal

pub holds-requires-clause-node : goal.holds-requires-clause-node
holds-requires-clause-node c = omega (arith, entry_count c.args.self.now, c.requires.sound.entries.filled)

pub holds-requires-clause-inside : goal.holds-requires-clause-inside
holds-requires-clause-inside c =
    let g = c.args.given in
    let fact = get_or g.facts.now c.args.k c.index-given-k.result in
    c.requires.sound.facts_in (claim_of fact) (Has-map claim_of fact g.facts.now (Has-at g.facts.now c.args.k c.index-given-k.result c.requires.fact))

pub returns : goal.returns
returns c = λ yes d.
    let g = c.args.given in
    let is = get_or_read g.facts.now c.args.k c.index-given-k.result c.requires.fact c.index-given-k.is d in
    subst (λ (x : Fact). HoldsAt g.system.now.types c.args.self.now 0 (most_of g) (claim_of x)) (sym c.index-given-k.is ∙ is)
    (subst (λ left. HoldsAt g.system.now.types c.args.self.now 0 left (claim_of (get_or g.facts.now c.args.k c.index-given-k.result))) c.most.ensures (c.holds.ensures yes))
