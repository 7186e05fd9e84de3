use Rattle.std.proofs.Common.{map, subst}
use Rattle.std.proofs.lemmas.List.Sorted.{IsPermutation-refl}
use Rattle.std.specs.List.Sorted.{IsSortedBy}
use Rattle.std.specs.Ordering.{is_lt}
use Rattle.derivation.specs.Order.{compare_trees}
use Rattle.forest_unpack.specs.Counted.{derivation_in}
use Rattle.forest_unpack.proofs.keeping.sort.Goals as goal

pub returns-then-is_sorted : goal.returns-then-is_sorted
returns-then-is_sorted c =
    record {
      moved = IsPermutation-refl (map derivation_in c.args.trees.now.items);
      sorted = subst (λ ts. IsSortedBy (λ x y. is_lt (compare_trees x y)) (map derivation_in ts)) c.deref.ensures.value (c.is_sorted.ensures c.if-is_sorted.true);
    }
