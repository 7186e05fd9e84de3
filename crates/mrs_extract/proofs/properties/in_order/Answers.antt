use Rattle.std.proofs.Common.{rules}
use Rattle.std.proofs.lemmas.List.Sorted.{IsPermutation-map}
use Rattle.mrs_model.specs.Views.{property_of}
use Rattle.mrs_extract.proofs.Sorting.{sorted_rises}
use Rattle.mrs_extract.proofs.properties.in_order.Goals as goal

pub returns-clause-same : goal.returns-clause-same
returns-clause-same c = IsPermutation-map property_of _ _ c.in_ok-sort_by.ensures.permutation

pub returns-clause-order : goal.returns-clause-order
returns-clause-order c = sorted_rises property_of (λ q. q.name) _ _ c.in_ok-sort_by.ensures.permutation c.in_ok-sort_by.ensures.sorted (λ a r q k. search rules) c.requires
