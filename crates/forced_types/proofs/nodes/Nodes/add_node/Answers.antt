use Rattle.forced_types.proofs.SoundLemmas.{added_sound, added_others}
use Rattle.fs_graph.specs.Facts.{path_of}
use Rattle.forced_types.proofs.nodes.Nodes.add_node.Goals as goal

pub returns-clause-sound : goal.returns-clause-sound
returns-clause-sound c =
    added_sound c.args.given c.args.self.now c.push_node.new.self (path_of c.args.path.items) c.args.image c.in_ok-node.ensures.adds c.requires.sound
    c.laws.ensures.some c.in_ok-node.ensures.small c.requires.forced c.requires.image c.push_node.ensures.pairs

pub returns-clause-others : goal.returns-clause-others
returns-clause-others c = added_others c.args.given c.args.self.now c.push_node.new.self (path_of c.args.path.items) c.args.image c.in_ok-node.ensures.adds
