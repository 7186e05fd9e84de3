use Rattle.chart_core.proofs.Buckets.{all_map}
use Rattle.packed_forests.proofs.index.Index.new.Goals as goal

pub returns-clause-empty : goal.returns-clause-empty
returns-clause-empty c = all_map (λ v. v.items) c.loop-slot.lists.items c.loop-slot.invariant.empty
