use Rattle.std.proofs.Common.{◌∙◌, ◌++◌, length, map, reverse, ap, arith}
use Rattle.std.proofs.lemmas.List.{reverse-reverse, length-reverse}
use Rattle.chart_workers.specs.Pools.{seat_post, pass_post}
use Rattle.chart_rows.proofs.Moved.{one_longer, one_moved}
use Rattle.chart_rows.proofs.pools.passes.Goals as goal

pub loop-seat-init : goal.loop-seat-init
loop-seat-init c = record {
  posts = ap (λ l. map pass_post l ++ map seat_post (reverse c.reverse.new.self.items)) c.in_ok-found.ensures.items ∙ ap (λ l. map seat_post (reverse l)) c.reverse.ensures.items ∙ ap (λ l. map seat_post l) (reverse-reverse c.args.seats.items);
  room = (let f = ap (λ l. length l) c.in_ok-found.ensures.items in let a = ap (λ l. length l) c.reverse.ensures.items in let b = length-reverse c.args.seats.items in let e = c.in_ok-found.ensures.exact in let n = c.len.ensures in let o = c.args.seats.ok in omega arith);
}

pub loop-seat-preserved : goal.loop-seat-preserved
loop-seat-preserved c =
    let i = c.loop-seat.invariant in let p = c.push_reserved.ensures in
    let fs = one_longer _ _ _ p.items in let ss = one_longer _ _ _ c.in-Some.ensures.items in record {
      posts = one_moved pass_post seat_post c.loop-seat.found.items c.push_reserved.new.self.items c.loop-seat.seats.items _ _ _ c.in-Some.seat p.items c.in-Some.ensures.items c.leave.ensures.post i.posts;
      room = (let r = i.room in let q = p.capacity in omega arith);
    }
