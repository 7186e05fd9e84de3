use Rattle.std.proofs.Common.{◌≤◌, ◌+◌, [], ◌∷◌, length, sym, ◌∙◌, ap, subst, arith}
use Rattle.type_hierarchy.specs.Table.{count_of}
use Rattle.fs_model.specs.Table.{is_same, is_under}
use Rattle.fs_closing.specs.Constraints.{IsConstraint}
use Rattle.fs_closing.specs.NodeTable.{depth_of}
use Rattle.fs_closing.specs.Rules.{system_of}
use Rattle.fs_closing.specs.Work.{work_of}
use Rattle.fs_closing.specs.Keeps.{StepsTo, deep_of}
use Rattle.fs_closing.proofs.GraftSteps.{Turns-grafts_under, ready_wider}
use Rattle.fs_closing.proofs.StepLemmas.{steps_after, turn_one, refute_one}
use Rattle.fs_closing.proofs.grafts.graft.Goals as goal

pub overflow_add-depth : goal.overflow_add-depth
overflow_add-depth c = omega (arith, c.depth_of-depth.ensures, c.requires.shallow, ap (depth_of c.args.nodes.now) c.live-n.ensures.value)

pub join-requires-clause-sound : goal.join-requires-clause-sound
join-requires-clause-sound c =
    let g = c.args.system.now in
    let nodes = c.args.nodes.now in
    let is = subst (IsConstraint g c.args.constraint.now.ty) (sym c.graph-graph.ensures) c.requires.is in
    let grows : c.args.nodes.now.size ≤ c.add_graph.new.nodes.size = omega (arith, c.in_ok-root.ensures.enters.size_is) in
    record {
      whole = c.in_ok-root.ensures.whole;
      within = c.in_ok-root.ensures.within (count_of g.types) (length g.introducers) is.graph_in c.requires.sound.within;
      ready = ready_wider nodes.size c.add_graph.new.nodes.size (count_of g.types) (length g.rules) c.args.tasks.now grows c.requires.sound.ready;
    }

pub join-requires-clause-node : goal.join-requires-clause-node
join-requires-clause-node c = omega (arith, c.live-n.ensures.within, c.in_ok-root.ensures.enters.size_is)

pub join-requires-clause-other : goal.join-requires-clause-other
join-requires-clause-other c = omega (arith, c.in_ok-root.ensures.place, c.laws.ensures.numbered.filled, c.in_ok-root.ensures.enters.size_is)

pub bound-requires-clause-sound : goal.bound-requires-clause-sound
bound-requires-clause-sound c =
    let g = c.args.system.now in
    (subst (StepsTo g c.add_graph.new.nodes (is_same c.live-n.result [] c.in_ok-root.root [] ∷ work_of g.rules c.args.tasks.now) c.join.new.nodes c.join.new.tasks)
    c.in-true.is c.in_ok-join.ensures.steps).1

pub bound-requires-clause-node : goal.bound-requires-clause-node
bound-requires-clause-node c = omega (arith, c.requires.node, c.in_ok-join.ensures.size, c.in_ok-root.ensures.enters.size_is)

pub returns-in_ok-ok-in-true-clause-steps : goal.returns-in_ok-ok-in-true-clause-steps
returns-in_ok-ok-in-true-clause-steps c =
    let g = c.args.system.now in
    let nodes = c.args.nodes.now in
    let x = deep_of nodes in
    let y = deep_of c.add_graph.new.nodes in
    let n = c.live-n.result in
    let w = work_of g.rules c.args.tasks.now in
    let w' = work_of g.rules c.join.new.tasks in
    let claim = is_under c.args.node [] c.args.ty in
    let d = c.in_ok-root.ensures.depths in
    let is = subst (IsConstraint g c.args.constraint.now.ty) (sym c.graph-graph.ensures) c.requires.is in
    let one = Turns-grafts_under g x y c.graph-graph.result.now c.laws.ensures c.args.constraint.now.ty c.args.node n c.args.ty w is c.in_ok-root.ensures.enters
    d.others (d.root c.laws.ensures.numbered.filled ∙ c.depth_of-depth.ensures) (λ k pos h. d.inner k pos h ∙ ap (λ i. i + 1) c.depth_of-depth.ensures)
    c.requires.node c.live-n.ensures.within c.live-n.ensures.value c.live-n.ensures.stays c.requires.under in
    let joined = subst (λ r. StepsTo g c.add_graph.new.nodes (is_same n [] r [] ∷ w) c.join.new.nodes c.join.new.tasks c.in_ok-join.field-0)
    c.in_ok-root.ensures.place c.in_ok-join.ensures.steps in
    let two = (subst (StepsTo g c.add_graph.new.nodes (is_same n [] nodes.size [] ∷ w) c.join.new.nodes c.join.new.tasks) c.in-true.is joined).0 in
    steps_after g nodes c.join.new.nodes c.bound.new.nodes (claim ∷ w) (claim ∷ w') c.bound.new.tasks c.in_ok-ok-in-true.ok
    (turn_one (system_of g) x y (deep_of c.join.new.nodes) (claim ∷ w) (is_same n [] nodes.size []) (claim ∷ []) w w' one two) c.in_ok-ok-in-true.ensures.steps

pub returns-in_ok-ok-in-true-clause-more : goal.returns-in_ok-ok-in-true-clause-more
returns-in_ok-ok-in-true-clause-more c =
    omega (arith, c.in_ok-ok-in-true.ensures.arcs.size, c.in_ok-join.ensures.size, c.in_ok-root.ensures.enters.size_is)

pub returns-in-false-clause-steps : goal.returns-in-false-clause-steps
returns-in-false-clause-steps c =
    let g = c.args.system.now in
    let nodes = c.args.nodes.now in
    let x = deep_of nodes in
    let y = deep_of c.add_graph.new.nodes in
    let n = c.live-n.result in
    let w = work_of g.rules c.args.tasks.now in
    let claim = is_under c.args.node [] c.args.ty in
    let d = c.in_ok-root.ensures.depths in
    let is = subst (IsConstraint g c.args.constraint.now.ty) (sym c.graph-graph.ensures) c.requires.is in
    let one = Turns-grafts_under g x y c.graph-graph.result.now c.laws.ensures c.args.constraint.now.ty c.args.node n c.args.ty w is c.in_ok-root.ensures.enters
    d.others (d.root c.laws.ensures.numbered.filled ∙ c.depth_of-depth.ensures) (λ k pos h. d.inner k pos h ∙ ap (λ i. i + 1) c.depth_of-depth.ensures)
    c.requires.node c.live-n.ensures.within c.live-n.ensures.value c.live-n.ensures.stays c.requires.under in
    let joined = subst (λ r. StepsTo g c.add_graph.new.nodes (is_same n [] r [] ∷ w) c.join.new.nodes c.join.new.tasks c.in_ok-join.field-0)
    c.in_ok-root.ensures.place c.in_ok-join.ensures.steps in
    let two = subst (StepsTo g c.add_graph.new.nodes (is_same n [] nodes.size [] ∷ w) c.join.new.nodes c.join.new.tasks) c.in-false.is joined in
    refute_one (system_of g) x y (claim ∷ w) (is_same n [] nodes.size []) (claim ∷ []) w one two

pub returns-in-false-clause-more : goal.returns-in-false-clause-more
returns-in-false-clause-more c = omega (arith, c.in_ok-join.ensures.size, c.in_ok-root.ensures.enters.size_is)
