use Rattle.std.proofs.Common.{add-one}
use Rattle.lkb_io.proofs.Ends.{HasNoEnd-more}
use Rattle.lkb_io.proofs.buffer.line_end.Goals as goal

pub loop-i-preserved : goal.loop-i-preserved
loop-i-preserved c = rw (add-one c.loop-i.i) (HasNoEnd-more c.args.bytes.now c.loop-i.i 0 c.loop-i-test.true c.loop-i.invariant c.if-bytes-i-eq10.false)
