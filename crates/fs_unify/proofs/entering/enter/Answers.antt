use Rattle.std.proofs.Common.{◌≤◌, ◌+◌, length, sym, ◌∙◌, ap, arith}
use Rattle.type_hierarchy.specs.Table.{count_of}
use Rattle.fs_closing.specs.NodeTable.{table_of}
use Rattle.fs_closing.proofs.GraftSteps.{ready_wider}
use Rattle.fs_unify.proofs.GivenLemmas.{flat_entered}
use Rattle.fs_unify.proofs.entering.enter.Goals as goal

pub enter_forced-requires-clause-sound : goal.enter_forced-requires-clause-sound
enter_forced-requires-clause-sound c =
    let g = c.args.system.now in
    let enters = c.in_ok-offset.ensures.enters in
    let grows : c.args.nodes.now.size ≤ c.add_graph.new.nodes.size = omega (arith, enters.size_is) in
    record {
      whole = c.in_ok-offset.ensures.whole;
      within = c.in_ok-offset.ensures.within (count_of g.types) (length g.introducers) c.requires.graph c.requires.sound.within;
      ready = ready_wider c.args.nodes.now.size c.add_graph.new.nodes.size (count_of g.types) (length g.rules) c.args.tasks.now grows c.requires.sound.ready;
    }

pub enter_forced-requires-clause-inside : goal.enter_forced-requires-clause-inside
enter_forced-requires-clause-inside c = omega (arith, c.in_ok-offset.ensures.enters.size_is, c.in_ok-offset.ensures.place)

pub enter_forced-requires-clause-types_are : goal.enter_forced-requires-clause-types_are
enter_forced-requires-clause-types_are c = λ k h.
    ap (λ o. (table_of c.add_graph.new.nodes).type_of (o + k)) c.in_ok-offset.ensures.place ∙ c.in_ok-offset.ensures.enters.type_new k h

pub returns-clause-enters : goal.returns-clause-enters
returns-clause-enters c = c.in_ok-enter_forced.ensures.owed (table_of c.args.nodes.now) (sym c.in_ok-offset.ensures.place) c.in_ok-offset.ensures.enters

pub returns-clause-flat : goal.returns-clause-flat
returns-clause-flat c = λ flat.
    c.in_ok-enter_forced.ensures.flat (flat_entered (length c.args.graph.now.types) c.args.nodes.now c.add_graph.new.nodes c.in_ok-offset.ensures.depths flat)
