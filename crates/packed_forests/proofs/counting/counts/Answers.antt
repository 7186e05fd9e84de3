use Rattle.std.proofs.Common.{sym, ap, ◌∙◌}
use Rattle.chart_core.specs.Kept.{core_of, rows_in}
use Rattle.chart_core.specs.View.{into_of, list_of}
use Rattle.packed_forests.specs.Inner.Found.{counted}
use Rattle.packed_forests.proofs.counting.counts.Goals as goal

pub returns-in-Leaf : goal.returns-in-Leaf
returns-in-Leaf g c = sym (ap (counted (into_of (rows_in (core_of c.args.finished.now))) (list_of c.args.row.now.daughters)) c.in-Leaf.is)

pub returns-in-Partial : goal.returns-in-Partial
returns-in-Partial g c = sym (ap (counted (into_of (rows_in (core_of c.args.finished.now))) (list_of c.args.row.now.daughters)) c.in-Partial.is)

pub returns-in-Whole : goal.returns-in-Whole
returns-in-Whole g c = c.are_live.ensures ∙ sym (ap (counted (into_of (rows_in (core_of c.args.finished.now))) (list_of c.args.row.now.daughters)) c.in-Whole.is)
