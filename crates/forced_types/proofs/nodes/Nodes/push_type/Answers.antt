use Rattle.forced_types.specs.Inner.Entries.{IsTyped}
use Rattle.forced_types.proofs.EntryLemmas.{altered}
use Rattle.forced_types.proofs.nodes.Nodes.push_type.Goals as goal

pub returns-clause-node : goal.returns-clause-node
returns-clause-node c =
    altered c.args.self.now.list.items c.args.n c.index_mut.result.now c.add_type.new.node (λ e f. IsTyped e f c.args.ty) c.requires c.index_mut.ensures.value c.add_type.ensures
