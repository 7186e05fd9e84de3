use Rattle.std.proofs.Common.{◌≡◌, None, [], ◌∷◌, ap, subst, arith}
use Rattle.fs_model.specs.Table.{is_same}
use Rattle.fs_graph.specs.Facts.{path_of}
use Rattle.fs_closing.specs.Rules.{system_of}
use Rattle.fs_closing.specs.Work.{work_of}
use Rattle.fs_closing.specs.Keeps.{Reaches, deep_of}
use Rattle.fs_closing.proofs.KeepsLemmas.{Turns-on, Turns-order, Refutes-after, same_itself, joined_same}
use Rattle.fs_closing.proofs.StepLemmas.{follow_first}
use Rattle.std.proofs.lemmas.Slice.Eq.{slice_eq-Decides}
use Rattle.fs_closing.proofs.ToldLemmas.{feat_eq, feat_eq-Decides, apply_itself}
use Rattle.fs_closing.proofs.closing.apply_same.Goals as goal

pub returns-in_default-clause-steps : goal.returns-in_default-clause-steps
returns-in_default-clause-steps c =
    let e : c.in_ok-one.field-0 ≡ None = cc (c.in_default.is) in
    let none = subst (Reaches c.args.system.now c.args.nodes.now c.args.tasks.now c.args.node (path_of c.args.a.now) c.reach.new.nodes c.reach.new.tasks)
    e c.in_ok-one.ensures in
    none (is_same 0 [] c.args.node (path_of c.args.b.now))

pub returns-in_default-2-clause-steps : goal.returns-in_default-2-clause-steps
returns-in_default-2-clause-steps c =
    let g = c.args.system.now in
    let some = subst (Reaches g c.args.nodes.now c.args.tasks.now c.args.node (path_of c.args.a.now) c.reach.new.nodes c.reach.new.tasks)
    c.in-Some.is c.in_ok-one.ensures in
    let e : c.in_ok-other.field-0 ≡ None = cc (c.in_default-2.is) in
    let none = subst (Reaches g c.reach.new.nodes c.reach.new.tasks c.args.node (path_of c.args.b.now) c.reach-2.new.nodes c.reach-2.new.tasks)
    e c.in_ok-other.ensures in
    Refutes-after (system_of g) (deep_of c.args.nodes.now) (deep_of c.reach.new.nodes)
    (is_same c.args.node (path_of c.args.a.now) c.args.node (path_of c.args.b.now) ∷ work_of g.rules c.args.tasks.now)
    (is_same c.args.node (path_of c.args.b.now) c.in-Some.one [] ∷ work_of g.rules c.reach.new.tasks)
    (follow_first g c.args.nodes.now c.args.tasks.now c.args.node (path_of c.args.a.now) (path_of c.args.b.now) c.reach.new.nodes c.reach.new.tasks c.in-Some.one some)
    (none (is_same 0 [] c.in-Some.one []))

pub returns-clause-steps : goal.returns-clause-steps
returns-clause-steps c =
    let g = c.args.system.now in
    let s = system_of g in
    let some = subst (Reaches g c.args.nodes.now c.args.tasks.now c.args.node (path_of c.args.a.now) c.reach.new.nodes c.reach.new.tasks)
    c.in-Some.is c.in_ok-one.ensures in
    let some' = subst (Reaches g c.reach.new.nodes c.reach.new.tasks c.args.node (path_of c.args.b.now) c.reach-2.new.nodes c.reach-2.new.tasks)
    c.in-Some-2.is c.in_ok-other.ensures in
    let first = follow_first g c.args.nodes.now c.args.tasks.now c.args.node (path_of c.args.a.now) (path_of c.args.b.now) c.reach.new.nodes c.reach.new.tasks
    c.in-Some.one some in
    let work' = work_of g.rules c.push_pair.new.self in
    let second = Turns-order s (deep_of c.reach.new.nodes) (deep_of c.reach-2.new.nodes)
    (is_same c.args.node (path_of c.args.b.now) c.in-Some.one [] ∷ work_of g.rules c.reach.new.tasks)
    (is_same c.args.node (path_of c.args.b.now) c.in-Some.one [] ∷ work_of g.rules c.reach.new.tasks) work'
    (is_same c.in-Some-2.other [] c.in-Some.one [] ∷ work_of g.rules c.reach-2.new.tasks) (same_itself _) (some'.0 (is_same 0 [] c.in-Some.one []))
    (joined_same (is_same c.in-Some-2.other [] c.in-Some.one [] ∷ []) (work_of g.rules c.reach-2.new.tasks) work' (c.in_ok-push_pair.ensures.work g.rules)) in (
      Turns-on s (deep_of c.args.nodes.now) (deep_of c.reach.new.nodes) (deep_of c.reach-2.new.nodes)
          (is_same c.args.node (path_of c.args.a.now) c.args.node (path_of c.args.b.now) ∷ work_of g.rules c.args.tasks.now)
          (is_same c.args.node (path_of c.args.b.now) c.in-Some.one [] ∷ work_of g.rules c.reach.new.tasks) work' first second,
      record {
        whole = some'.1.whole;
        within = some'.1.within;
        ready = c.in_ok-push_pair.ensures.ready _ _ _ some'.2 (omega (arith, some.2, some'.3)) some'.1.ready;
      },
    )

pub returns-clause-more : goal.returns-clause-more
returns-clause-more c = λ _.
    let g = c.args.system.now in
    let some = subst (Reaches g c.args.nodes.now c.args.tasks.now c.args.node (path_of c.args.a.now) c.reach.new.nodes c.reach.new.tasks)
    c.in-Some.is c.in_ok-one.ensures in
    let some' = subst (Reaches g c.reach.new.nodes c.reach.new.tasks c.args.node (path_of c.args.b.now) c.reach-2.new.nodes c.reach-2.new.tasks)
    c.in-Some-2.is c.in_ok-other.ensures in
    omega (arith, some.3, some'.3)

pub returns-then-eq-clause-steps : goal.returns-then-eq-clause-steps
returns-then-eq-clause-steps c =
    let g = c.args.system.now in
    let some = subst (Reaches g c.args.nodes.now c.args.tasks.now c.args.node (path_of c.args.a.now) c.reach.new.nodes c.reach.new.tasks)
    c.in-Some.is c.in_ok-one.ensures in
    let is = (slice_eq-Decides {E = feat_eq} feat_eq-Decides c.args.a.now c.args.b.now c.eq.result c.eq.ensures).0 c.if-eq.true in
    apply_itself g c.args.nodes.now c.args.tasks.now c.args.node (path_of c.args.a.now) (path_of c.args.b.now) c.reach.new.nodes c.reach.new.tasks c.in-Some.one
    (ap path_of is) some

pub returns-then-eq-clause-more : goal.returns-then-eq-clause-more
returns-then-eq-clause-more c = λ _.
    let g = c.args.system.now in
    let some = subst (Reaches g c.args.nodes.now c.args.tasks.now c.args.node (path_of c.args.a.now) c.reach.new.nodes c.reach.new.tasks)
    c.in-Some.is c.in_ok-one.ensures in
    some.3
