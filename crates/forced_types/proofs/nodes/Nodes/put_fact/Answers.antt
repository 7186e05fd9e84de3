use Rattle.std.proofs.Common.{arith, get_or}
use Rattle.fs_model.specs.Claims.{Has}
use Rattle.fs_graph.specs.Facts.{claim_of, claims_of}
use Rattle.fs_closing.proofs.HasLemmas.{Has-at, Has-map}
use Rattle.forced_types.specs.Inner.Sound.{path_in}
use Rattle.forced_types.proofs.SoundLemmas.{entry_count}
use Rattle.forced_types.proofs.StepLemmas.{given_put}
use Rattle.forced_types.proofs.nodes.Nodes.put_fact.Goals as goal

pub put-requires-clause-node : goal.put-requires-clause-node
put-requires-clause-node c = omega (arith, entry_count c.args.self.now, c.requires.sound.entries.filled)

pub put-requires-clause-put : goal.put-requires-clause-put
put-requires-clause-put c =
    let g = c.args.given in
    let fact = get_or g.facts.now c.args.k c.index-given-k.result in
    let claimed : Has (claim_of fact) (claims_of g.facts.now) =
    Has-map claim_of fact g.facts.now (Has-at g.facts.now c.args.k c.index-given-k.result c.requires.fact) in
    given_put g (path_in c.args.self.now 0) (claim_of fact) c.requires.sound.entries.root claimed (c.requires.sound.facts_in (claim_of fact) claimed)
