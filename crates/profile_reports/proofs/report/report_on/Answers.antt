use Rattle.std.proofs.Common.{◌+◌, ◌<◌, ◌∙◌, length, ap, arith}
use Rattle.std.proofs.lemmas.List.{get_or_default}
use Rattle.profile_reports.specs.Lines.{lines_from, counted, counts_of}
use Rattle.profile_reports.proofs.Reports.{at_first, counts_more, lines_more, room_more}
use Rattle.profile_reports.proofs.report.report_on.Goals as goal

pub loop-i-preserved : goal.loop-i-preserved
loop-i-preserved c =
    let i = c.loop-i.i in
    let item = c.index-items-i.result in
    let less : i < length c.args.results.now = omega (arith, c.loop-i-test.true, c.requires.each) in
    let verdict = c.count.ensures ∙ ap (λ v. counted v c.loop-i.counts) c.in_ok-verdict.ensures.verdict in
    record {
      lines = lines_more _ _ _ _ _ _ c.in_ok-verdict.ensures.lines
          (at_first (lines_from (i + 1)) c.args.items.now c.args.results.now i item _ c.loop-i-test.true less c.index-items-i.is (grind (arith, less, get_or_default)))
          c.loop-i.invariant.lines;
      room = room_more _ c.loop-i.counts c.count.new.counts i verdict c.loop-i.invariant.room;
      counts = counts_more _ c.loop-i.counts c.count.new.counts _ _ _ verdict
          (at_first counts_of c.args.items.now c.args.results.now i item _ c.loop-i-test.true less c.index-items-i.is (grind (arith, less, get_or_default)))
          c.loop-i.invariant.counts;
    }
