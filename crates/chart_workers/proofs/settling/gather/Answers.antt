use Rattle.std.proofs.Common.{◌∙◌, ◌+◌, List, map, set, ap, sym, subst, length, arith}
use Rattle.std.proofs.Math.Seq.{map-set_same}
use Rattle.atomic_table.proofs.Lists.{at_index}
use Rattle.std.proofs.lemmas.List.{length-map}
use Rattle.crossbeam_deque.specs.Handles.{worker_deque}
use Rattle.chart_workers.specs.Balance.{weigh}
use Rattle.chart_workers.specs.Whole.{at_door, all_of, pass_place, ArePlaced, AreLinked}
use Rattle.chart_workers.proofs.Empties.{emptied_linked, emptied_all, still_empty}
use Rattle.chart_workers.proofs.settling.gather.Goals as goal

pub pour-requires-clause-linked : goal.pour-requires-clause-linked
pour-requires-clause-linked c =
    let i = c.loop-at.invariant in let ps = c.loop-at.passes.items in let k = c.loop-at.at in let p = c.index_mut-pass.result.now in let q = c.take_doors-doors.new.self in let s = c.take_doors-doors.ensures in
    let here = at_index ps k p (let t = c.loop-at-test.true in let n = c.len-at-end.ensures in let m = i.count in let o = c.args.passes.now.ok in omega arith) c.index_mut-pass.ensures.value in
    let places = map-set_same pass_place ps k q p (ap (λ o. worker_deque o) s.same.0 ∙ ap pass_place c.index_mut-pass.ensures.value) ∙ i.places in
    subst (λ (l : List _). AreLinked l (set ps k q)) (sym places) (emptied_linked _ ps k p q here s.same.1 s.doors.1 i.linked)

pub pour-requires-clause-placed : goal.pour-requires-clause-placed
pour-requires-clause-placed c =
    let i = c.loop-at.invariant in let ps = c.loop-at.passes.items in let k = c.loop-at.at in let p = c.index_mut-pass.result.now in let q = c.take_doors-doors.new.self in let s = c.take_doors-doors.ensures in
    let here = at_index ps k p (let t = c.loop-at-test.true in let n = c.len-at-end.ensures in let m = i.count in let o = c.args.passes.now.ok in omega arith) c.index_mut-pass.ensures.value in
    let places = map-set_same pass_place ps k q p (ap (λ o. worker_deque o) s.same.0 ∙ ap pass_place c.index_mut-pass.ensures.value) ∙ i.places in
    subst (λ (l : List _). ArePlaced l c.take_doors-doors.result.items) (sym places) (subst (λ (ds : _). ArePlaced (map pass_place c.args.passes.now.items) ds) (sym (ap (λ v. v.items) s.doors.0)) (i.linked k p here).1)

pub loop-at-preserved : goal.loop-at-preserved
loop-at-preserved c =
    let i = c.loop-at.invariant in let ps = c.loop-at.passes.items in let k = c.loop-at.at in let p = c.index_mut-pass.result.now in let q = c.take_doors-doors.new.self in let s = c.take_doors-doors.ensures in
    let here = at_index ps k p (let t = c.loop-at-test.true in let n = c.len-at-end.ensures in let m = i.count in let o = c.args.passes.now.ok in omega arith) c.index_mut-pass.ensures.value in
    let places = map-set_same pass_place ps k q p (ap (λ o. worker_deque o) s.same.0 ∙ ap pass_place c.index_mut-pass.ensures.value) ∙ i.places in record {
      places = c.pour.ensures.places ∙ places;
      linked = subst (λ (l : List _). AreLinked l c.pour.new.passes.items) places c.pour.ensures.linked;
      all = λ f add t. c.pour.ensures.all f add t ∙ ap (λ (ds : _). all_of f t (set ps k q) + weigh (at_door f t) ds) (ap (λ v. v.items) s.doors.0) ∙ emptied_all f t ps k p q here s.same.1 s.same.0 s.doors.1 ∙ i.all f add t;
      empty = still_empty ps c.pour.new.passes.items k q c.pour.ensures.doors s.doors.1 i.empty;
      count = (let a = ap (λ (l : List _). length l) (c.pour.ensures.places ∙ places) in let x = length-map c.pour.new.passes.items pass_place in let y = length-map c.args.passes.now.items pass_place in omega arith);
    }

pub returns-clause-empty : goal.returns-clause-empty
returns-clause-empty c = λ j p e. c.loop-at.invariant.empty j p e (let lt = Rattle.chart_workers.proofs.Pours.at_less c.loop-at.passes.items j p e in let t = c.loop-at-test.false in let n = c.len-at-end.ensures in let m = c.loop-at.invariant.count in let o = c.args.passes.now.ok in omega arith)
