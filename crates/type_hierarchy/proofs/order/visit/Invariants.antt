use Rattle.std.proofs.Common.{◌≡◌, length, drop}
use Rattle.type_hierarchy.specs.Inner.Reach.{visited}
use Rattle.type_hierarchy.proofs.order.visit.Given as goal

abbrev pub invariant-loop-t : goal.invariant-loop-t
invariant-loop-t l =
    record {
      rest : visited (drop l.t-index l.types) (l.seen.items, l.stack.items) ≡ visited l.types (l.fn.seen.items, l.fn.stack.items);
      size : length l.seen.items ≡ length l.fn.seen.items;
    }
