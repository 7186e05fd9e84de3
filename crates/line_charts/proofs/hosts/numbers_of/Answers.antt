use Rattle.std.proofs.Common.{◌<◌, ◌∙◌, get_or, set, sym, ap, subst, arith, length-set}
use Rattle.chart_model.specs.At.{at_below}
use Rattle.line_charts.specs.Inner.Hosts.{row_of}
use Rattle.line_charts.proofs.Lists.{or_at}
use Rattle.line_charts.proofs.Numbering.{numbered_more}
use Rattle.line_charts.proofs.hosts.numbers_of.Goals as goal

pub loop-i-preserved : goal.loop-i-preserved
loop-i-preserved c =
    let hosts = c.args.hosts.now in
    let table = c.loop-i.table.items in
    let i = c.loop-i.i in
    let d = c.index-hosts-i.result in
    let h = get_or hosts i d in
    let low = subst (λ n. row_of h < n) (sym c.loop-i.invariant.0) (c.requires.within i d c.loop-i-test.true) in (
      length-set table (row_of h) c.in_ok-number.number ∙ c.loop-i.invariant.0,
      numbered_more row_of hosts c.requires.apart i h (or_at hosts i d c.loop-i-test.true) table _ low (ap (set table (row_of h)) c.in_ok-number.ensures) c.loop-i.invariant.1,
    )

pub returns-clause-numbered : goal.returns-clause-numbered
returns-clause-numbered c = λ n h a. c.loop-i.invariant.1 n h (omega (arith, at_below a, c.loop-i-test.false)) a
