use Rattle.std.proofs.Common.{rules}
use Rattle.std.proofs.lemmas.List.Sorted.{IsPermutation-map}
use Rattle.forest_unpack.specs.Counted.{derivation_in}
use Rattle.forest_unpack.proofs.Sorting.{sorted_by_compare}
use Rattle.forest_unpack.proofs.keeping.arrange.Goals as goal

pub returns-clause-moved : goal.returns-clause-moved
returns-clause-moved c = IsPermutation-map derivation_in _ _ c.sort_unstable_by.ensures.permutation

pub returns-clause-sorted : goal.returns-clause-sorted
returns-clause-sorted c = sorted_by_compare _ c.sort_unstable_by.ensures.sorted (λ f a r q k. search rules)
