use Rattle.std.proofs.Common.{rules}
use Rattle.std.proofs.lemmas.List.Sorted.{IsPermutation-map}
use Rattle.std.specs.Ordering.{is_lt}
use Rattle.line_charts.specs.Charts.{compare_makers}
use Rattle.line_charts.specs.Views.{maker_of}
use Rattle.line_charts.proofs.MakerLaws.{makers_total, makers_equal}
use Rattle.line_charts.proofs.Rising.{sorted_by_key, sorted_mapped}
use Rattle.line_charts.proofs.making.sort_makers.Goals as goal

pub returns-clause-moved : goal.returns-clause-moved
returns-clause-moved c = IsPermutation-map maker_of _ _ c.sort_unstable_by.ensures.permutation

pub returns-clause-sorted : goal.returns-clause-sorted
returns-clause-sorted c = sorted_mapped maker_of (λ x y. is_lt (compare_makers x y)) _ (sorted_by_key compare_makers makers_total (λ a b. (makers_equal a b).0) maker_of _ c.sort_unstable_by.ensures.sorted (λ f a r q k. search rules))
