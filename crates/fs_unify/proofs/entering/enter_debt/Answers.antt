use Rattle.std.proofs.Common.{◌≤◌, ◌<◌, ◌+◌, [], ◌∷◌, length, subst, arith}
use Rattle.type_hierarchy.specs.Table.{count_of}
use Rattle.fs_model.specs.Claims.{Has}
use Rattle.fs_model.specs.Table.{is_same}
use Rattle.fs_closing.specs.declared.tasks.Bound.{Bound}
use Rattle.fs_closing.specs.NodeTable.{table_of}
use Rattle.fs_closing.specs.Joined.{IsJoined}
use Rattle.fs_closing.specs.Work.{work_of}
use Rattle.fs_closing.proofs.GraftSteps.{ready_wider}
use Rattle.fs_unify.specs.Debts.{bound_claims}
use Rattle.fs_unify.proofs.CarryLemmas.{nodes_table, carries_debt, debt_stands}
use Rattle.fs_unify.proofs.GivenLemmas.{flat_entered}
use Rattle.fs_unify.proofs.entering.enter_debt.Goals as goal

pub push_bounds-requires : goal.push_bounds-requires
push_bounds-requires c = record {
  small = λ b h.
      let inside = c.requires.debt.1.bounds.nodes_in b (subst (Has b) c.deref.ensures.value h) in
      omega (arith, inside, c.in_ok-root.ensures.enters.size_is, c.in_ok-root.ensures.place, c.in_ok-root.ensures.whole.stands.small);
}

pub returns-clause-carries : goal.returns-clause-carries
returns-clause-carries c =
    let g = c.args.system.now in
    let debt = c.args.debt.now in
    let rules = g.rules in
    let size = c.args.nodes.now.size in
    let place = c.in_ok-root.ensures.place in
    let joins = subst (λ r. IsJoined (is_same c.args.node [] r [] ∷ []) (work_of rules c.args.tasks.now) (work_of rules c.push_pair.new.self)) place
    (c.in_ok-push_pair.ensures.work rules) in
    let bounded = subst (λ r. IsJoined (bound_claims r debt.bounds.items) (work_of rules c.push_pair.new.self) (work_of rules c.push_bounds.new.tasks)) place
    (subst (λ l. IsJoined (bound_claims c.in_ok-root.root l) (work_of rules c.push_pair.new.self) (work_of rules c.push_bounds.new.tasks)) c.deref.ensures.value
    (c.in_ok-push_bounds.ensures.work rules)) in
    carries_debt g c.requires.debt.0 debt c.requires.debt.1 c.laws-2.ensures (table_of c.args.nodes.now) (table_of c.add_graph.new.nodes) c.in_ok-root.ensures.enters
    c.args.node c.requires.node c.requires.debt.2 (work_of rules c.args.tasks.now) (work_of rules c.push_pair.new.self) (work_of rules c.push_bounds.new.tasks) joins bounded

pub returns-clause-stands : goal.returns-clause-stands
returns-clause-stands c =
    let g = c.args.system.now in
    let debt = c.args.debt.now in
    let rules = g.rules in
    let place = c.in_ok-root.ensures.place in
    let joins = subst (λ r. IsJoined (is_same c.args.node [] r [] ∷ []) (work_of rules c.args.tasks.now) (work_of rules c.push_pair.new.self)) place
    (c.in_ok-push_pair.ensures.work rules) in
    let bounded = subst (λ r. IsJoined (bound_claims r debt.bounds.items) (work_of rules c.push_pair.new.self) (work_of rules c.push_bounds.new.tasks)) place
    (subst (λ l. IsJoined (bound_claims c.in_ok-root.root l) (work_of rules c.push_pair.new.self) (work_of rules c.push_bounds.new.tasks)) c.deref.ensures.value
    (c.in_ok-push_bounds.ensures.work rules)) in
    debt_stands g c.requires.debt.0 debt c.requires.debt.1 c.laws-2.ensures (table_of c.args.nodes.now) (table_of c.add_graph.new.nodes) c.in_ok-root.ensures.enters
    c.args.node c.requires.node c.requires.debt.2 (work_of rules c.args.tasks.now) (work_of rules c.push_pair.new.self) (work_of rules c.push_bounds.new.tasks) joins bounded
    (nodes_table c.add_graph.new.nodes c.in_ok-root.ensures.whole)

pub returns-clause-flat : goal.returns-clause-flat
returns-clause-flat c = λ flat. flat_entered (length c.args.debt.now.graph.types) c.args.nodes.now c.add_graph.new.nodes c.in_ok-root.ensures.depths flat

pub returns-clause-sound : goal.returns-clause-sound
returns-clause-sound c =
    let g = c.args.system.now in
    let is = c.requires.debt.1 in
    let enters = c.in_ok-root.ensures.enters in
    let place = c.in_ok-root.ensures.place in
    let size = c.add_graph.new.nodes.size in
    let grows : c.args.nodes.now.size ≤ c.add_graph.new.nodes.size = omega (arith, enters.size_is) in
    let node_in : c.args.node < c.add_graph.new.nodes.size = omega (arith, enters.size_is, c.requires.node) in
    let root_in : c.in_ok-root.root < c.add_graph.new.nodes.size = omega (arith, enters.size_is, place, c.laws-2.ensures.numbered.filled) in
    let node_small = λ (b : Bound) (h : Has b c.deref.result.now).
    let in_graph = is.bounds.nodes_in b (subst (Has b) c.deref.ensures.value h) in
    let z : c.in_ok-root.root + b.node < c.add_graph.new.nodes.size = omega (arith, enters.size_is, place, in_graph) in z in
    let inside : (b : Bound) → Has b c.deref.result.now → (c.in_ok-root.root + b.node < c.add_graph.new.nodes.size) × (b.ty < count_of g.types) =
    λ b h. (node_small b h, is.bounds.types_in b (subst (Has b) c.deref.ensures.value h)) in
    record {
      whole = c.in_ok-root.ensures.whole;
      within = c.in_ok-root.ensures.within (count_of g.types) (length g.introducers) is.graph_in c.requires.sound.within;
      ready = c.in_ok-push_bounds.ensures.ready size (count_of g.types) (length g.rules) inside
          (c.in_ok-push_pair.ensures.ready size (count_of g.types) (length g.rules) node_in root_in
          (ready_wider c.args.nodes.now.size size (count_of g.types) (length g.rules) c.args.tasks.now grows c.requires.sound.ready));
    }
