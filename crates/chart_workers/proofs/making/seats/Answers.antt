use Rattle.std.proofs.Common.{◌≡◌, ◌∙◌, ℕ, ◌++◌, ◌%◌, ◌^◌, length, map, reverse, ap, sym, refl, arith}
use Rattle.std.proofs.lemmas.List.{reverse-reverse, length-reverse}
use Rattle.chart_workers.specs.declared.seat.PoolSeat.{PoolSeat}
use Rattle.chart_workers.specs.Making.{seat_own, seat_doors}
use Rattle.chart_workers.proofs.Makes.{none_there, each_placed}
use Rattle.chart_workers.proofs.Taken.{one_longer, one_made, next_there}
use Rattle.chart_workers.proofs.making.seats.Goals as goal

pub loop-own-init : goal.loop-own-init
loop-own-init c = record {
  own = ap (λ l. map seat_own l ++ reverse c.reverse.new.self.items) c.in_ok-found.ensures.items ∙ ap reverse c.reverse.ensures.items ∙ reverse-reverse c.args.deques.items;
  doors = ap (λ l. map seat_doors l ++ reverse c.reverse-2.new.self.items) c.in_ok-found.ensures.items ∙ ap reverse c.reverse-2.ensures.items ∙ reverse-reverse c.args.rows.items;
  numbers = λ j s at. absurd (none_there c.in_ok-found.found.items c.in_ok-found.ensures.items j s at);
  count = ap (λ l. length l) c.reverse-2.ensures.items ∙ length-reverse c.args.rows.items ∙ c.requires.count ∙ sym (ap (λ l. length l) c.reverse.ensures.items ∙ length-reverse c.args.deques.items);
  room = (let f = ap (λ l. length l) c.in_ok-found.ensures.items in let a = ap (λ l. length l) c.reverse.ensures.items in let b = length-reverse c.args.deques.items in let e = c.in_ok-found.ensures.exact in let n = c.len.ensures in let o = c.args.deques.ok in omega arith);
}

pub invariant_of-push_reserved : goal.invariant_of-push_reserved
invariant_of-push_reserved c =
    let i = c.loop-own.invariant in let own = c.in-Some.own in let doors = c.in-Some-pop.doors in
    let d = c.requires.cut _ own (next_there seat_own c.loop-own.found.items c.loop-own.deques.items _ c.args.deques.items own c.in-Some.ensures.items i.own) in
    let r = c.requires.rows _ doors (next_there seat_doors c.loop-own.found.items c.loop-own.rows.items _ c.args.rows.items doors c.in-Some-pop.ensures.items i.doors) in
    let few = c.requires.few in let o = doors.ok in record {
      pushes = ap (λ l. length l % 2 ^ 64) (sym d.put);
      takes = ap (λ l. length l % 2 ^ 64) (sym d.taken);
      fifo = d.fifo;
      parts = (let p = d.parts in omega arith);
      few = omega arith;
    }

pub loop-own-preserved : goal.loop-own-preserved
loop-own-preserved c =
    let i = c.loop-own.invariant in let p = c.push_reserved.ensures in
    let fs = one_longer c.loop-own.found.items c.push_reserved.new.self.items _ p.items in
    let ds = one_longer c.pop.new.self.items c.loop-own.deques.items c.in-Some.own c.in-Some.ensures.items in
    let rs = one_longer c.pop-in-Some.new.self.items c.loop-own.rows.items c.in-Some-pop.doors c.in-Some-pop.ensures.items in
    let number : c.len-in-Some.result ≡ length c.loop-own.found.items = (let e = c.len-in-Some.ensures in let o = c.loop-own.found.ok in omega arith) in record {
      own = one_made seat_own c.loop-own.found.items c.push_reserved.new.self.items c.loop-own.deques.items c.pop.new.self.items c.args.deques.items _ c.in-Some.own p.items c.in-Some.ensures.items refl i.own;
      doors = one_made seat_doors c.loop-own.found.items c.push_reserved.new.self.items c.loop-own.rows.items c.pop-in-Some.new.self.items c.args.rows.items _ c.in-Some-pop.doors p.items c.in-Some-pop.ensures.items refl i.doors;
      numbers = each_placed (λ (j : ℕ) (s : PoolSeat). s.number ≡ j) c.loop-own.found.items c.push_reserved.new.self.items _ p.items number i.numbers;
      count = (let k = i.count in omega arith);
      room = (let r = i.room in let q = p.capacity in omega arith);
    }
