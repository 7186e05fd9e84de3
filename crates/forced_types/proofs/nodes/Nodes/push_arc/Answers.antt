use Rattle.forced_types.specs.Inner.Entries.{IsArced}
use Rattle.forced_types.proofs.EntryLemmas.{altered}
use Rattle.forced_types.proofs.nodes.Nodes.push_arc.Goals as goal

pub returns-clause-node : goal.returns-clause-node
returns-clause-node c =
    altered c.args.self.now.list.items c.args.n c.index_mut.result.now c.add_arc.new.node (λ e f. IsArced e f c.args.arc) c.requires c.index_mut.ensures.value c.add_arc.ensures
