-- What is found, as the answer to an item.
use Rattle.std.specs.Prelude.{map}
use Rattle.chart_core.specs.declared.Limits as declared
use Rattle.derivation.specs.Views.{derivation_of}
use Rattle.tree_model.specs.Items.{Limits, Answer, ByUnaryChain, ByEdges, Readings, Trees}
use Rattle.packed_items.specs.declared.Found.{Found}
use Rattle.packed_items.specs.declared.Found.TheVariants as found

-- those of the limits that the answer to an item looks at
abbrev pub limits_in : declared.Limits → Limits
limits_in limits = record { edges = limits.edges; readings = limits.readings; unary = limits.unary }

abbrev pub answer_of : Found → Answer
answer_of (found.UnaryChain) = ByUnaryChain
answer_of (found.Edges) = ByEdges
answer_of (found.Readings) = Readings
answer_of (found.Trees classes trees) = Trees classes (map derivation_of trees.items)
