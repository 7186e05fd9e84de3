use Rattle.std.proofs.Common.{add-one}
use Rattle.lkb_io.proofs.Ends.{HasNoEnd-more}
use Rattle.profile_reports.proofs.LineLemmas.{lines-at, lines-rest}
use Rattle.profile_reports.proofs.items_lines.first_line.Goals as goal

pub loop-i-preserved : goal.loop-i-preserved
loop-i-preserved c = rw (add-one c.loop-i.i) (HasNoEnd-more c.args.bytes.now c.loop-i.i 0 c.loop-i-test.true c.loop-i.invariant c.if-byte-eq10.false)

pub returns-then-byte-eq10-clause-lines : goal.returns-then-byte-eq10-clause-lines
returns-then-byte-eq10-clause-lines c = lines-at c.args.bytes.now c.loop-i.i c.loop-i-test.true c.loop-i.invariant c.if-byte-eq10.true

pub returns-clause-lines : goal.returns-clause-lines
returns-clause-lines c = lines-rest c.args.bytes.now c.loop-i.i c.requires c.loop-i-test.false c.loop-i.invariant
