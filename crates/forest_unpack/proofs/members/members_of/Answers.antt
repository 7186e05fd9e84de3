use Rattle.std.proofs.Common.{◌∙◌}
use Rattle.chart_core.specs.Kept.{core_of, rows_in}
use Rattle.forest_unpack.proofs.Entering.{members_none}
use Rattle.forest_unpack.proofs.members.members_of.Goals as goal

pub loop-i-init : goal.loop-i-init
loop-i-init g c = members_none (rows_in (core_of c.args.finished.now)) c.in_ok-last.last.items c.in_ok-before.before.items (c.in_ok-last.ensures.length ∙ c.rows-count.ensures) c.in_ok-last.ensures.none c.in_ok-before.ensures.items
