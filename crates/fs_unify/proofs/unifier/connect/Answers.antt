use Rattle.std.proofs.Common.{◌<◌, ◌+◌, [], ◌∷◌, ◌++◌, length, map, drop, slice_index_or, sym, ◌∙◌, ap, subst, arith}
use Rattle.std.specs.Prelude.{All}
use Rattle.std.proofs.lemmas.List.{drop_all, length-map}
use Rattle.fs_model.specs.Table.{is_same}
use Rattle.fs_graph.specs.Facts.{path_of}
use Rattle.fs_unify.specs.declared.parts.Placed.{Placed}
use Rattle.fs_closing.specs.Rules.{system_of}
use Rattle.fs_closing.specs.Work.{work_of}
use Rattle.fs_closing.specs.Keeps.{Turns, StepsTo, deep_of}
use Rattle.fs_unify.specs.Placing.{part_in, joints}
use Rattle.fs_closing.proofs.HasLemmas.{Has-at}
use Rattle.fs_closing.proofs.KeepsLemmas.{Turns-on, Refutes-after}
use Rattle.fs_closing.proofs.ClosingLemmas.{reaches_by}
use Rattle.fs_closing.proofs.StepLemmas.{turn_one}
use Rattle.fs_closing.proofs.StepLemmas.{refute_one}
use Rattle.fs_unify.proofs.PlaceLemmas.{item_has, joints_step}
use Rattle.fs_unify.proofs.unifier.connect.Goals as goal

pub reach-requires-clause-feats : goal.reach-requires-clause-feats
reach-requires-clause-feats c =
    let p = c.index-parts-i.result in
    let inside = (c.requires.parts p (item_has c.args.parts.now c.loop-i.i p c.loop-i-test.true c.index-parts-i.is)).place_in in
    let n = length c.args.system.now.introducers in
    subst (λ l. All (λ f. f < n) (path_of l)) (sym (c.deref.ensures.value ∙ ap (λ (q : Placed). q.place.items) (sym c.index-parts-i.is))) inside

pub returns-in-None : goal.returns-in-None
returns-in-None c =
    let g = c.args.system.now in
    let s = system_of g in
    let parts = c.args.parts.now in
    let os = c.args.offsets.now in
    let i = c.loop-i.i in
    let p = c.index-parts-i.result in
    let o = slice_index_or os i 0 in
    let rest = joints (drop (i + 1) (map part_in parts)) (drop (i + 1) os) in
    let step = joints_step parts os i p c.requires.even c.loop-i-test.true
    ∙ ap (λ (q : Placed). is_same 0 (path_of q.place.items) o [] ∷ rest) (sym c.index-parts-i.is) in
    let work = work_of g.rules c.loop-i.tasks in
    let start = joints (map part_in parts) os ++ work_of g.rules c.args.tasks.now in
    let before = subst (λ l. Turns s (deep_of c.args.nodes.now) start (deep_of c.loop-i.nodes) (l ++ work)) step c.loop-i.invariant.leads in
    let r = reaches_by g c.loop-i.nodes c.loop-i.tasks 0 c.deref.result.now p.place.items c.reach.new.nodes c.reach.new.tasks _ _ (c.deref.ensures.value ∙ ap (λ (q : Placed). q.place.items) (sym c.index-parts-i.is)) c.in-None.is
    c.in_ok-end.ensures in
    refute_one s (deep_of c.args.nodes.now) (deep_of c.loop-i.nodes) start (is_same 0 (path_of p.place.items) o []) rest work before (r (is_same 0 [] o []))

pub join-requires-clause-sound : goal.join-requires-clause-sound
join-requires-clause-sound c =
    let p = c.index-parts-i.result in
    let r = reaches_by c.args.system.now c.loop-i.nodes c.loop-i.tasks 0 c.deref.result.now p.place.items c.reach.new.nodes c.reach.new.tasks _ _
    (c.deref.ensures.value ∙ ap (λ (q : Placed). q.place.items) (sym c.index-parts-i.is)) c.in-Some.is c.in_ok-end.ensures in
    r.1

pub join-requires-clause-node : goal.join-requires-clause-node
join-requires-clause-node c =
    let p = c.index-parts-i.result in
    let r = reaches_by c.args.system.now c.loop-i.nodes c.loop-i.tasks 0 c.deref.result.now p.place.items c.reach.new.nodes c.reach.new.tasks _ _
    (c.deref.ensures.value ∙ ap (λ (q : Placed). q.place.items) (sym c.index-parts-i.is)) c.in-Some.is c.in_ok-end.ensures in
    r.2

pub join-requires-clause-other : goal.join-requires-clause-other
join-requires-clause-other c =
    let p = c.index-parts-i.result in
    let r = reaches_by c.args.system.now c.loop-i.nodes c.loop-i.tasks 0 c.deref.result.now p.place.items c.reach.new.nodes c.reach.new.tasks _ _
    (c.deref.ensures.value ∙ ap (λ (q : Placed). q.place.items) (sym c.index-parts-i.is)) c.in-Some.is c.in_ok-end.ensures in
    let i_in : c.loop-i.i < length c.args.offsets.now = omega (arith, c.loop-i-test.true, c.requires.even) in
    let old = c.requires.offsets (slice_index_or c.args.offsets.now c.loop-i.i 0) (Has-at c.args.offsets.now c.loop-i.i 0 i_in) in
    omega (arith, old, c.loop-i.invariant.more, r.3)

pub returns-in-false : goal.returns-in-false
returns-in-false c =
    let g = c.args.system.now in
    let s = system_of g in
    let parts = c.args.parts.now in
    let os = c.args.offsets.now in
    let i = c.loop-i.i in
    let p = c.index-parts-i.result in
    let o = slice_index_or os i 0 in
    let rest = joints (drop (i + 1) (map part_in parts)) (drop (i + 1) os) in
    let step = joints_step parts os i p c.requires.even c.loop-i-test.true
    ∙ ap (λ (q : Placed). is_same 0 (path_of q.place.items) o [] ∷ rest) (sym c.index-parts-i.is) in
    let work = work_of g.rules c.loop-i.tasks in
    let work1 = work_of g.rules c.reach.new.tasks in
    let start = joints (map part_in parts) os ++ work_of g.rules c.args.tasks.now in
    let k = is_same 0 (path_of p.place.items) o [] in
    let before = subst (λ l. Turns s (deep_of c.args.nodes.now) start (deep_of c.loop-i.nodes) (l ++ work)) step c.loop-i.invariant.leads in
    let r = reaches_by g c.loop-i.nodes c.loop-i.tasks 0 c.deref.result.now p.place.items c.reach.new.nodes c.reach.new.tasks _ _ (c.deref.ensures.value ∙ ap (λ (q : Placed). q.place.items) (sym c.index-parts-i.is)) c.in-Some.is
    c.in_ok-end.ensures in
    let clash = subst (StepsTo g c.reach.new.nodes (is_same c.in-Some.end [] o [] ∷ work1) c.join.new.nodes c.join.new.tasks) c.in-false.is c.in_ok-join-in-Some.ensures.steps in
    refute_one s (deep_of c.args.nodes.now) (deep_of c.loop-i.nodes) start k rest work before
    (Refutes-after s (deep_of c.loop-i.nodes) (deep_of c.reach.new.nodes) (k ∷ work) (is_same c.in-Some.end [] o [] ∷ work1) (r.0 (is_same 0 [] o [])) clash)

pub loop-i-preserved : goal.loop-i-preserved
loop-i-preserved c =
    let g = c.args.system.now in
    let s = system_of g in
    let parts = c.args.parts.now in
    let os = c.args.offsets.now in
    let i = c.loop-i.i in
    let p = c.index-parts-i.result in
    let o = slice_index_or os i 0 in
    let rest = joints (drop (i + 1) (map part_in parts)) (drop (i + 1) os) in
    let step = joints_step parts os i p c.requires.even c.loop-i-test.true
    ∙ ap (λ (q : Placed). is_same 0 (path_of q.place.items) o [] ∷ rest) (sym c.index-parts-i.is) in
    let work = work_of g.rules c.loop-i.tasks in
    let work1 = work_of g.rules c.reach.new.tasks in
    let work2 = work_of g.rules c.join.new.tasks in
    let start = joints (map part_in parts) os ++ work_of g.rules c.args.tasks.now in
    let k = is_same 0 (path_of p.place.items) o [] in
    let before = subst (λ l. Turns s (deep_of c.args.nodes.now) start (deep_of c.loop-i.nodes) (l ++ work)) step c.loop-i.invariant.leads in
    let r = reaches_by g c.loop-i.nodes c.loop-i.tasks 0 c.deref.result.now p.place.items c.reach.new.nodes c.reach.new.tasks _ _ (c.deref.ensures.value ∙ ap (λ (q : Placed). q.place.items) (sym c.index-parts-i.is)) c.in-Some.is
    c.in_ok-end.ensures in
    let joined = subst (StepsTo g c.reach.new.nodes (is_same c.in-Some.end [] o [] ∷ work1) c.join.new.nodes c.join.new.tasks) c.in-true.is c.in_ok-join-in-Some.ensures.steps in
    let two = Turns-on s (deep_of c.loop-i.nodes) (deep_of c.reach.new.nodes) (deep_of c.join.new.nodes) (k ∷ work) (is_same c.in-Some.end [] o [] ∷ work1) work2
    (r.0 (is_same 0 [] o [])) joined.0 in
    record {
      leads = turn_one s (deep_of c.args.nodes.now) (deep_of c.loop-i.nodes) (deep_of c.join.new.nodes) start k rest work work2 before two;
      sound = joined.1;
      more = omega (arith, c.loop-i.invariant.more, r.3, c.in_ok-join-in-Some.ensures.size);
    }

pub returns : goal.returns
returns c =
    let g = c.args.system.now in
    let parts = c.args.parts.now in
    let os = c.args.offsets.now in
    let i = c.loop-i.i in
    let start = joints (map part_in parts) os ++ work_of g.rules c.args.tasks.now in
    let none = drop_all i (map part_in parts) (omega (arith, length-map parts part_in, c.loop-i-test.false)) in
    let end = ap (λ l. joints l (drop i os)) none in (
      subst (λ l. Turns (system_of g) (deep_of c.args.nodes.now) start (deep_of c.loop-i.nodes) (l ++ work_of g.rules c.loop-i.tasks)) end c.loop-i.invariant.leads,
      c.loop-i.invariant.sound,
    )
