use Rattle.std.proofs.Common.{◌∙◌, map, sym, ap}
use Rattle.std.proofs.lemmas.Iterator.Adapters.{YieldsList-from_vec}
use Rattle.std.proofs.lemmas.Iterator.Consumers.{YieldsList-end}
use Rattle.chart_core.specs.Leaves.{leaf_seen}
use Rattle.packed_items.proofs.Same.{same_map}
use Rattle.packed_items.proofs.sieving.leaves_over.Goals as goal

pub returns : goal.returns
returns g c =
    let end = YieldsList-end (YieldsList-from_vec c.args.leaves.items (cc) (cc)) c.loop-leaf.yielded _ c.loop-leaf.yielded_by _ c.next.new.self c.in-None.is c.next.ensures.steps in
    c.loop-leaf.invariant ∙ ap (map (leaf_seen (λ shape. shape))) (sym (same_map c.loop-leaf.yielded) ∙ end.0)
