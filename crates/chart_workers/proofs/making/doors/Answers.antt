use Rattle.std.proofs.Common.{◌≡◌, ◌∙◌, ◌+◌, ◌<◌, ◌∷◌, ◌++◌, [], length, map, set, ap, sym, subst, refl, arith}
use Rattle.std.proofs.lemmas.List.{length-map, length-set}
use Rattle.std.proofs.Math.Seq.{map-set_same}
use lib.ListN.{get_elem?}
use Rattle.atomic_table.proofs.Lists.{at_index, at_map}
use Rattle.crossbeam_deque.specs.Handles.{worker_deque, worker_flavor, worker_view}
use Rattle.chart_workers.specs.Making.{Deque, IsNew}
use Rattle.chart_workers.specs.Whole.{ArePlaced}
use Rattle.chart_workers.proofs.Makes.{AreLost, none_lost, one_lost, own_kept, all_lost, others_few, numbers_past, numbers_own, one_placed, none_there, each_push}
use Rattle.chart_workers.proofs.making.doors.Goals as goal
use Rattle.chart_workers.proofs.making.doors.Goals.{then-at-seat+in_ok-door, else-at-seat}

pub loop-at-init : goal.loop-at-init
loop-at-init c = record {
  lost = none_lost c.args.seat c.args.deques.now.items;
  places = refl;
  new = λ i d at. absurd (none_there c.in_ok-found.found.items c.in_ok-found.ensures.items i d at);
  count = refl;
  numbers = ap (λ l. map (λ d. d.deque) l) c.in_ok-found.ensures.items;
  placed = λ i d at. absurd (none_there c.in_ok-found.found.items c.in_ok-found.ensures.items i d at);
  room = (let e = c.in_ok-found.ensures.exact in let n = c.len.ensures in let o = c.args.deques.now.ok in omega arith);
}

pub door-requires-clause-fifo : goal.door-requires-clause-fifo
door-requires-clause-fifo c =
    let i = c.loop-at.invariant in let d = c.index_mut-deque.result.now in
    let here = at_index c.loop-at.deques.items c.loop-at.at d (let t = c.loop-at-test.true in let n = c.len-at-end.ensures in let m = i.count in let o = c.args.deques.now.ok in omega arith) c.index_mut-deque.ensures.value in
    let l = i.lost c.loop-at.at d here in ap worker_flavor (l.3 (omega arith)) ∙ (c.requires.cut c.loop-at.at l.0 l.1).0

pub door-requires-clause-parts : goal.door-requires-clause-parts
door-requires-clause-parts c =
    let i = c.loop-at.invariant in let d = c.index_mut-deque.result.now in
    let here = at_index c.loop-at.deques.items c.loop-at.at d (let t = c.loop-at-test.true in let n = c.len-at-end.ensures in let m = i.count in let o = c.args.deques.now.ok in omega arith) c.index_mut-deque.ensures.value in
    let l = i.lost c.loop-at.at d here in subst (λ (x : Deque). 1 < (worker_view x).parts) (sym (l.3 (omega arith))) ((c.requires.cut c.loop-at.at l.0 l.1).1 c.if-at-seat.true)

pub push_reserved-requires : goal.push_reserved-requires
push_reserved-requires c =
    let i = c.loop-at.invariant in let f = others_few c.args.seat c.loop-at.at in let n = ap (λ l. length l) i.numbers in let m = length-map c.loop-at.found.items (λ d. d.deque) in
    let t = c.loop-at-test.true in let e = c.len-at-end.ensures in let o = c.args.deques.now.ok in let p = c.loop-at.found.ok in let r = i.room in omega arith

pub loop-at-preserved : goal.loop-at-preserved
loop-at-preserved c =
    let i = c.loop-at.invariant in let at = c.loop-at.at in let seat = c.args.seat in let now = c.loop-at.deques.items in let old = c.args.deques.now.items in
    elim c.if-at-seat.branch [
      | then-at-seat+in_ok-door w ↦
          (let d = w.index_mut-deque.result.now in let x = w.in_ok-door.field-0 in let door = w.in_ok-door.ensures in
          let here = at_index now at d (let t = c.loop-at-test.true in let n = c.len-at-end.ensures in let m = i.count in let o = c.args.deques.now.ok in omega arith) w.index_mut-deque.ensures.value in
          let l = i.lost at d here in
          let ds : c.if-at-seat.deques.items ≡ set now at w.door.new.deque = ap (λ v. v.items) w.deques-is in
          let fs : c.if-at-seat.found.items ≡ c.loop-at.found.items ++ x ∷ [] = ap (λ v. v.items) w.found-is ∙ w.push_reserved.ensures.items in record {
            lost = subst (λ k. AreLost seat (at + 1) old k) (sym ds) (one_lost seat at old now d w.door.new.deque w.if-at-seat.true here door.same.0 door.same.1 door.view i.lost);
            places = ap (λ k. map worker_deque k) ds ∙ map-set_same worker_deque now at w.door.new.deque d (door.same.0 ∙ ap worker_deque w.index_mut-deque.ensures.value) ∙ i.places;
            new = each_push IsNew c.loop-at.found.items c.if-at-seat.found.items x fs door.new i.new;
            count = ap (λ k. length k) ds ∙ length-set now at w.door.new.deque ∙ i.count;
            numbers = ap (λ k. map (λ y. y.deque) k) fs ∙ numbers_past c.loop-at.found.items x seat at w.if-at-seat.true door.door.0 i.numbers;
            placed = subst (λ k. ArePlaced (map worker_deque old) k) (sym fs) (one_placed (map worker_deque old) c.loop-at.found.items x at (worker_deque l.0) door.door.0 (at_map worker_deque old at l.0 l.1) (door.door.1 ∙ ap worker_deque (l.3 (omega arith))) i.placed);
            room = (let r = i.room in let k = ap (λ v. v.cap) w.found-is in let p = w.push_reserved.ensures.capacity in omega arith);
          })
      | else-at-seat w ↦
          (let own = w.if-at-seat.false in
          let ds : c.if-at-seat.deques.items ≡ now = ap (λ v. v.items) w.deques-is in
          let fs : c.if-at-seat.found.items ≡ c.loop-at.found.items = ap (λ v. v.items) w.found-is in record {
            lost = subst (λ k. AreLost seat (at + 1) old k) (sym ds) (own_kept seat at old now own (λ t d there. (c.requires.cut t d there).0) i.lost);
            places = ap (λ k. map worker_deque k) ds ∙ i.places;
            new = λ j y e. i.new j y (ap (λ k. get_elem? k j) (sym fs) ∙ e);
            count = ap (λ k. length k) ds ∙ i.count;
            numbers = ap (λ k. map (λ y. y.deque) k) fs ∙ i.numbers ∙ numbers_own seat at own;
            placed = subst (λ k. ArePlaced (map worker_deque old) k) (sym fs) i.placed;
            room = (let r = i.room in let k = ap (λ v. v.cap) w.found-is in omega arith);
          })
    ]

pub returns-clause-lost : goal.returns-clause-lost
returns-clause-lost c =
    let i = c.loop-at.invariant in
    all_lost c.args.seat c.loop-at.at c.args.deques.now.items c.loop-at.deques.items (let t = c.loop-at-test.false in let n = c.len-at-end.ensures in let o = c.args.deques.now.ok in omega arith) i.lost

pub returns-in_err-door-clause-places : goal.returns-in_err-door-clause-places
returns-in_err-door-clause-places c =
    map-set_same worker_deque c.loop-at.deques.items c.loop-at.at c.door.new.deque c.index_mut-deque.result.now (c.door.ensures.same.0 ∙ ap worker_deque c.index_mut-deque.ensures.value) ∙ c.loop-at.invariant.places
