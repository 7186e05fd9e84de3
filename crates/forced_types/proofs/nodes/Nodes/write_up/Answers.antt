use Rattle.forced_types.specs.Inner.Entries.{IsRaised}
use Rattle.forced_types.proofs.EntryLemmas.{altered}
use Rattle.forced_types.proofs.nodes.Nodes.write_up.Goals as goal

pub returns-clause-node : goal.returns-clause-node
returns-clause-node c =
    altered c.args.self.now.list.items c.args.n c.index_mut.result.now c.set_up.new.node (λ e f. IsRaised e f c.args.up) c.requires c.index_mut.ensures.value c.set_up.ensures
