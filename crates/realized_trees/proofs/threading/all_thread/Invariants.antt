use Rattle.std.proofs.Common.{ℕ, ◌≡◌, ◌<◌, Some}
use Rattle.std.specs.Prelude.{slice_get}
use Rattle.tree_model.specs.Mothers.{Rule}
use Rattle.tree_model.specs.Signs.{rule_system}
use Rattle.generate_model.specs.Threading.{IsThreading}
use Rattle.book_signs.specs.Trees.{signs_of}
use Rattle.relation_fit.specs.Lists.{list_seen}
use Rattle.realized_trees.proofs.threading.all_thread.Given as goal

abbrev pub invariant-loop-k : goal.invariant-loop-k
invariant-loop-k l = (n : ℕ) → n < l.k → (rule : Rule) → slice_get (rule_system (signs_of l.signs)).rules n ≡ Some rule → IsThreading (rule_system (signs_of l.signs)) (list_seen l.list).rest (list_seen l.list).ends rule
