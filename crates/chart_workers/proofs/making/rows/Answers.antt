use Rattle.std.proofs.Common.{◌≡◌, ◌∙◌, ◌+◌, ◌∷◌, [], length, length-append, map, ap, sym, subst, refl, arith}
use mathlib.Core.Option.{some}
use lib.ListN.{get_elem?}
use Rattle.chart_workers.specs.Making.{IsRow, IsNew}
use Rattle.std.proofs.lemmas.List.{length-map}
use Rattle.crossbeam_deque.specs.Handles.{worker_deque, worker_flavor, worker_view}
use Rattle.chart_workers.specs.Balance.{hand}
use Rattle.chart_workers.proofs.Makes.{below, none_there, all_at, each_push, each_placed, cut_on, fresh_on, row_long, some_part, two_parts}
use Rattle.chart_workers.proofs.making.rows.Goals as goal

pub loop-seat-init : goal.loop-seat-init
loop-seat-init c =
    record {
      count = refl;
      before = λ t d there lt. absurd (omega arith);
      after = λ t d there le. let v = ap (λ v. v.parts) (all_at (λ x. (worker_flavor x ≡ 0) × (worker_view x ≡ hand 64 [] [])) c.args.deques.now.items c.requires.whole t d there).1 in omega arith;
      fresh = λ t d there. let h = all_at (λ x. (worker_flavor x ≡ 0) × (worker_view x ≡ hand 64 [] [])) c.args.deques.now.items c.requires.whole t d there in (h.0, ap (λ v. v.put) h.1, ap (λ v. v.taken) h.1);
      found = ap (λ l. length l) c.in_ok-found.ensures.items;
      rows = λ j r there. absurd (none_there c.in_ok-found.found.items c.in_ok-found.ensures.items j r there);
      long = λ j r there. absurd (none_there c.in_ok-found.found.items c.in_ok-found.ensures.items j r there);
      new = λ j r there. absurd (none_there c.in_ok-found.found.items c.in_ok-found.ensures.items j r there);
      places = refl;
      room = (let e = c.in_ok-found.ensures.exact in let n = c.len.ensures in let o = c.args.deques.now.ok in omega arith);
    }

pub doors-requires : goal.doors-requires
doors-requires c =
    let i = c.loop-seat.invariant in record {
      cut = λ t d there. (
        (i.fresh t d there).0,
        λ ne.
            let lt = below c.loop-seat.deques.items t d there in let n = i.count in let few = c.requires.few in let test = c.loop-seat-test.true in let e = c.len-seat-end.ensures in let o = c.args.deques.now.ok in
            two_parts _ c.loop-seat.seat t (length c.args.deques.now.items) (i.before t d there) (i.after t d there) ne (omega arith) (omega arith) few,
      );
    }

pub loop-seat-preserved : goal.loop-seat-preserved
loop-seat-preserved c =
    let i = c.loop-seat.invariant in let seat = c.loop-seat.seat in let s = c.in_ok-doors.ensures in let n = c.push_reserved.ensures in
    let few = c.requires.few in let test = c.loop-seat-test.true in let e = c.len-seat-end.ensures in let o = c.args.deques.now.ok in record {
      count = s.count ∙ i.count;
      before = λ t d there lt. let l = s.lost t d there in
          (cut_on seat t l.0 d (i.before t l.0 l.1) (i.after t l.0 l.1) (some_part _ seat t (i.before t l.0 l.1) (i.after t l.0 l.1) (omega arith)) l.2).0 lt;
      after = λ t d there le. let l = s.lost t d there in
          (cut_on seat t l.0 d (i.before t l.0 l.1) (i.after t l.0 l.1) (some_part _ seat t (i.before t l.0 l.1) (i.after t l.0 l.1) (omega arith)) l.2).1 le;
      fresh = λ t d there. let l = s.lost t d there in let f = i.fresh t l.0 l.1 in fresh_on seat t l.0 d l.2 f.1 f.2;
      found = (let a = ap (λ l. length l) n.items in let b = length-append c.loop-seat.found.items (c.in_ok-doors.field-0 ∷ []) in let f = i.found in omega arith);
      rows = each_placed (λ j r. IsRow (map worker_deque c.args.deques.now.items) j r.items) c.loop-seat.found.items c.push_reserved.new.self.items c.in_ok-doors.field-0 n.items
          (let f = i.found in subst (λ k. IsRow k (length c.loop-seat.found.items) c.in_ok-doors.field-0.items) i.places (subst (λ k. IsRow (map worker_deque c.loop-seat.deques.items) k c.in_ok-doors.field-0.items) (sym f) s.row)) i.rows;
      long = each_push (λ r. length r.items + 1 ≡ length c.args.deques.now.items) c.loop-seat.found.items c.push_reserved.new.self.items c.in_ok-doors.field-0 n.items
          (let m = length-map c.loop-seat.deques.items worker_deque in let k = i.count in let r = row_long (map worker_deque c.loop-seat.deques.items) seat c.in_ok-doors.field-0.items (omega arith) s.row in omega arith) i.long;
      new = each_push (λ r. (k : _) → (d : _) → get_elem? r.items k ≡ some d → IsNew d) c.loop-seat.found.items c.push_reserved.new.self.items c.in_ok-doors.field-0 n.items s.new i.new;
      places = s.places ∙ i.places;
      room = (let r = i.room in let p = n.capacity in omega arith);
    }

pub returns-clause-cut : goal.returns-clause-cut
returns-clause-cut c = λ t d there.
    let i = c.loop-seat.invariant in let f = i.fresh t d there in let lt = below c.loop-seat.deques.items t d there in
    let test = c.loop-seat-test.false in let e = c.len-seat-end.ensures in let o = c.args.deques.now.ok in let k = i.count in let a = c.loop-seat.auto.seat-end in record {
      fifo = f.0;
      parts = (let b = i.before t d there (omega arith) in omega arith);
      put = f.1;
      taken = f.2;
    }
