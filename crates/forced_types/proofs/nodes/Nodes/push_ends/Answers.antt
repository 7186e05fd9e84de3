use Rattle.std.proofs.Common.{subst, get_or, arith}
use Rattle.fs_model.specs.Claims.{Has}
use Rattle.fs_closing.proofs.HasLemmas.{Has-at}
use Rattle.fs_graph.specs.declared.graph.GraphArc.{GraphArc}
use Rattle.forced_types.proofs.SoundLemmas.{entry_count}
use Rattle.forced_types.proofs.nodes.Nodes.push_ends.Goals as goal

pub up-node-requires : goal.up-node-requires
up-node-requires c =
    let d : GraphArc = record { feat = record { 0 = 0 }; to = record { 0 = 0 } } in
    let has = subst (Has (get_or c.arcs-arcs.result.now c.loop-arc.arc-index d)) c.arcs-arcs.ensures (Has-at c.arcs-arcs.result.now c.loop-arc.arc-index d c.loop-arc-test.true) in
    let in_list = ((c.requires.sound.entries.each c.args.n (omega (arith, entry_count c.args.self.now, c.requires.node))).arc_in _ has).0 in
    omega (arith, in_list, entry_count c.args.self.now)
