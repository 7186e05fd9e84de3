use Rattle.std.proofs.Common.{◌++◌, map, refl, subst}
use Rattle.fs_closing.specs.NodeTable.{table_of}
use Rattle.fs_closing.specs.Rules.{system_of}
use Rattle.fs_closing.specs.Work.{work_of}
use Rattle.fs_closing.specs.Keeps.{StepsTo}
use Rattle.fs_unify.specs.Placing.{part_in, source_in, joints}
use Rattle.fs_unify.proofs.GivenLemmas.{starts_one, gathers, flat_added}
use Rattle.fs_unify.proofs.PlaceLemmas.{begun, entered_stands, item_has}
use Rattle.fs_unify.proofs.unifier.gather.Goals as goal

pub enter_all-requires-clause-begun : goal.enter_all-requires-clause-begun
enter_all-requires-clause-begun c =
    let g = c.args.system.now in
    let parts = c.args.parts.now in
    let p = c.index-parts-0.result in
    let starts = starts_one (system_of g) (table_of c.args.nodes.now) (table_of c.add_node.new.nodes) c.requires.no_nodes refl c.in_ok-add_node.ensures.adds in
    begun g parts p c.clear.new.self.items c.add_node.new.nodes c.args.tasks.now c.requires.bare starts
    (flat_added c.args.nodes.now c.add_node.new.nodes c.in_ok-add_node.ensures.depths c.requires.flat)
    (item_has parts 0 c.index-parts-0.result c.requires.some c.index-parts-0.is) c.laws-2.ensures c.clear.ensures.items c.requires.no_work

pub returns : goal.returns
returns c =
    let g = c.args.system.now in
    let parts = c.args.parts.now in
    let e = c.in_ok-enter_all.ensures.entered in
    let work = work_of g.rules c.enter_all.new.tasks in
    let steps = subst (λ l. StepsTo g c.enter_all.new.nodes (joints (map part_in parts) l ++ work) c.connect.new.nodes c.connect.new.tasks c.in_ok-connected.connected)
    c.deref.ensures.value c.in_ok-connected.ensures in
    gathers g (source_in parts) c.enter_all.new.nodes (joints (map part_in parts) c.enter_all.new.offsets.items ++ work) c.connect.new.nodes c.connect.new.tasks e.paths
    c.in_ok-connected.connected (entered_stands g parts c.enter_all.new.offsets.items c.enter_all.new.nodes c.enter_all.new.tasks e) steps
