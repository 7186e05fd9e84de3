use Rattle.std.proofs.Common.{◌∙◌, ◌++◌, length, map, reverse, ap, sym, refl, arith}
use Rattle.std.proofs.lemmas.List.{reverse-reverse, length-reverse}
use Rattle.chart_workers.specs.Posts.{post_seat}
use Rattle.chart_workers.proofs.Posted.{one_made, one_longer}
use Rattle.chart_workers.proofs.posts.posts.Goals as goal

pub loop-seat-init : goal.loop-seat-init
loop-seat-init g c = record {
  seats = ap (λ l. map post_seat l ++ reverse c.reverse.new.self.items) c.in_ok-found.ensures.items ∙ ap reverse c.reverse.ensures.items ∙ reverse-reverse c.args.seats.items;
  count = ap (λ l. length l) c.reverse-2.ensures.items ∙ length-reverse c.args.pools.items ∙ c.requires ∙ sym (ap (λ l. length l) c.reverse.ensures.items ∙ length-reverse c.args.seats.items);
  room = (let f = ap (λ l. length l) c.in_ok-found.ensures.items in let a = ap (λ l. length l) c.reverse.ensures.items in let b = length-reverse c.args.seats.items in let e = c.in_ok-found.ensures.exact in let n = c.len.ensures in let o = c.args.seats.ok in omega arith);
}

pub loop-seat-preserved : goal.loop-seat-preserved
loop-seat-preserved g c =
    let i = c.loop-seat.invariant in let p = c.push_reserved.ensures in
    let fs = one_longer _ _ _ p.items in let ss = one_longer _ _ _ c.in-Some.ensures.items in let ps = one_longer _ _ _ c.in-Some-pop.ensures.items in record {
      seats = one_made post_seat c.loop-seat.found.items c.push_reserved.new.self.items c.loop-seat.seats.items _ c.args.seats.items _ c.in-Some.seat p.items c.in-Some.ensures.items refl i.seats;
      count = (let k = i.count in omega arith);
      room = (let r = i.room in let q = p.capacity in omega arith);
    }
