use Rattle.std.proofs.Common.{ℕ, ◌<◌, ◌≤◌, length, slice_index, arith}
use Rattle.scope_resolve.proofs.Each.{each_whole}
use Rattle.scope_resolve.proofs.Owning.{room_more, read_any}
use Rattle.scope_resolve.proofs.tables.room.Goals as goal

pub loop-k-preserved : goal.loop-k-preserved
loop-k-preserved c =
    let ns = c.args.numbers.now in
    let l : c.loop-k.k < length ns = omega (arith, c.loop-k-test.true) in
    room_more ns c.loop-k.k (slice_index ns c.loop-k.k) c.loop-k.room _ l (read_any ns c.loop-k.k 0 (slice_index ns c.loop-k.k) l) c.loop-k.invariant c.larger-room.ensures.low c.larger-room.ensures.above

pub returns : goal.returns
returns c =
    let l : length c.args.numbers.now ≤ c.loop-k.k = omega (arith, c.loop-k-test.false) in
    each_whole (λ (v : ℕ). v < c.loop-k.room) c.args.numbers.now c.loop-k.k l c.loop-k.invariant
