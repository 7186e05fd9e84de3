-- What was collected and sorted is the answer.
use Rattle.std.specs.Prelude.{ℕ, ◌<◌, List, length}
use Rattle.std.specs.List.Sorted.{IsSortedBy, IsPermutation}
use Rattle.std.specs.Ordering.{is_lt}
use Rattle.chart_model.specs.Calculus.{Calculus}
use Rattle.chart_model.specs.Chart.{Leaf, Limits}
use Rattle.derivation.specs.Trees.{Derivation}
use Rattle.derivation.specs.Order.{compare_trees}
use Rattle.tree_model.specs.Readings.{Wholes, IsAccepted, AreAllAccepted, AreMoreThan}
use Rattle.tree_model.specs.Lists.{Has, AllDiffer}
use Rattle.tree_model.proofs.Ordered.{rises, differ_permuted, has_contains, contains_has, has_permuted, permuted_has}

module _ {M C V : Type 0} (k : Calculus M C) (w : Wholes V C) (limits : Limits) (leaves : List (Leaf M C)) (ts us : List Derivation) (each : (t : Derivation) → Has t ts → IsAccepted k w limits leaves t) (differ : AllDiffer ts) (moved : IsPermutation ts us) (sorted : IsSortedBy (λ x y. is_lt (compare_trees x y)) us) where
  pub all_accepted : ((t : Derivation) → IsAccepted k w limits leaves t → Has t ts) → AreAllAccepted k w limits leaves us
  all_accepted all = record {
    each = λ t c. each t (permuted_has ts us t moved (contains_has us t c));
    all = λ t a. has_contains (has_permuted ts us t moved (all t a));
    in_order = rises us sorted (differ_permuted ts us moved differ);
  }

  pub more_than : (max : ℕ) → max < length us → AreMoreThan k w limits leaves max
  more_than max many = record {
    some = us;
    many = many;
    each = λ t c. each t (permuted_has ts us t moved (contains_has us t c));
    in_order = rises us sorted (differ_permuted ts us moved differ);
  }
