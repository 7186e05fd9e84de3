use Rattle.std.proofs.Common.{◌∙◌, sym}
use Rattle.chart_workers.proofs.Steps.{learns, weigh-append}
use Rattle.chart_workers.proofs.seat.Pass.left.Goals as goal

pub len_as-requires : goal.len_as-requires
len_as-requires c = λ items views b at all h. learns _ _ items views b at all h ∙ sym (weigh-append h _ items)
