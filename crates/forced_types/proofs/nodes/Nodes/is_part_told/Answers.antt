use Rattle.std.proofs.Common.{◌<◌, length, arith, subst}
use Rattle.std.proofs.lemmas.List.{length-map}
use Rattle.fs_graph.specs.declared.facts.Feat.{Feat}
use Rattle.fs_graph.specs.Facts.{path_of}
use Rattle.forced_types.specs.Inner.Sound.{most_of}
use Rattle.forced_types.specs.Inner.Closed.{HasFront}
use Rattle.forced_types.proofs.SoundLemmas.{entry_count}
use Rattle.forced_types.proofs.ToldLemmas.{far_told, graph_told}
use Rattle.forced_types.proofs.nodes.Nodes.is_part_told.Goals as goal

pub returns-then-part-most : goal.returns-then-part-most
returns-then-part-most c = λ yes.
    let far : most_of c.args.given < length (path_of c.args.part.at.now) = omega (arith, c.most.ensures, c.if-part-most.true, length-map c.args.part.at.now (λ (x : Feat). x.0)) in
    far_told c.args.given c.args.self.now c.args.part far
    (subst (λ x. HasFront c.args.self.now 0 x (path_of c.args.part.at.now)) c.most-then-part-most.ensures (c.has_front.ensures yes))

pub returns : goal.returns
returns c = λ yes.
    let root = c.is_root_told.ensures c.if-not-is_root_told.false in
    graph_told c.args.given c.args.self.now c.args.part.graph.now c.args.spots.now c.laws.ensures (c.are_nodes_told.ensures yes) c.requires.flat
    (omega (arith, c.requires.sound.entries.filled, entry_count c.args.self.now)) (path_of c.args.part.at.now) root.inside root.near root.leads
