use Rattle.std.proofs.Common.{sym, ap, ◌∙◌}
use Rattle.chart_core.specs.Lists.{lists_of, list_at}
use Rattle.chart_core.proofs.Buckets.{list_here}
use Rattle.chart_core.proofs.places.Places.at.Goals as goal

pub returns : goal.returns
returns c = c.as_slice.ensures.value ∙ sym (list_here (λ v. v.items) c.args.self.now.lists.items c.slot.result c.index.result.now c.slot.ensures.inside c.index.ensures) ∙ ap (list_at (lists_of c.args.self.now)) c.slot.ensures.is
