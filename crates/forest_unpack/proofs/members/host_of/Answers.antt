use Rattle.std.proofs.Common.{length}
use Rattle.chart_core.specs.Grammar.{grammar_of}
use Rattle.chart_core.specs.Kept.{core_of, rows_in}
use Rattle.forest_unpack.proofs.Leading.{leads_itself, follows_end, follows_first, follows_next, next_later, less_left}
use Rattle.forest_unpack.proofs.members.host_of.Goals as goal

pub returns-in_default : goal.returns-in_default
returns-in_default g c = leads_itself (rows_in (core_of c.args.finished.now)) c.args.row.0 c.row.result.now c.row.ensures c.in_default.is

pub loop-next-init : goal.loop-next-init
loop-next-init g c = follows_first (grammar_of g.S.Shapes g.S.Cover.Cover c.requires.core.0) (core_of c.args.finished.now) c.requires.core.1 c.args.row.0 c.row.result.now c.in-Some.first c.row.ensures c.in-Some.is

pub row-requires-in-loop-next : goal.row-requires-in-loop-next
row-requires-in-loop-next g c = c.loop-next.invariant.inside

pub loop-next-smaller : goal.loop-next-smaller
loop-next-smaller g c =
    less_left (length (rows_in (core_of c.args.finished.now))) c.loop-next.host.0 c.in-Some-into.next.0 c.loop-next.invariant.inside
    (next_later (grammar_of g.S.Shapes g.S.Cover.Cover c.requires.core.0) (core_of c.args.finished.now) c.requires.core.1 c.args.row.0 c.loop-next.host.0 c.row-in-loop-next.result.now c.in-Some-into.next c.loop-next.invariant c.row-in-loop-next.ensures c.in-Some-into.is)

pub loop-next-preserved : goal.loop-next-preserved
loop-next-preserved g c = follows_next (grammar_of g.S.Shapes g.S.Cover.Cover c.requires.core.0) (core_of c.args.finished.now) c.requires.core.1 c.args.row.0 c.loop-next.host.0 c.row-in-loop-next.result.now c.in-Some-into.next c.loop-next.invariant c.row-in-loop-next.ensures c.in-Some-into.is

pub returns : goal.returns
returns g c = follows_end (rows_in (core_of c.args.finished.now)) c.args.row.0 c.loop-next.host.0 c.row-in-loop-next.result.now c.loop-next.invariant c.row-in-loop-next.ensures c.in_default-into.is
