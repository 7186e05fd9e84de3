use Rattle.std.proofs.Common.{sym, ap, ◌∙◌}
use Rattle.chart_core.specs.Lists.{list_at}
use Rattle.packed_forests.specs.Inner.Found.{lists_in}
use Rattle.chart_core.proofs.Buckets.{list_here}
use Rattle.packed_forests.proofs.index.Index.at.Goals as goal

pub returns : goal.returns
returns c = c.as_slice.ensures.value ∙ sym (list_here (λ v. v.items) c.args.self.now.lists.items c.slot.result c.index.result.now c.slot.ensures.inside c.index.ensures) ∙ ap (list_at (lists_in c.args.self.now)) c.slot.ensures.is
