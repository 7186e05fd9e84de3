use Rattle.std.proofs.Common.{◌≡◌, ◌<◌, ℕ, List, map, get_or}
use Rattle.mrs_model.specs.declared.Role.{Role}
use Rattle.mrs_model.specs.Views.{variable_of, argument_of}
use Rattle.mrs_model.specs.Renaming.{IsVariableMap, renamed_argument}
use Rattle.mrs_model.specs.Inner.Bindings.{Agrees, IsGrown, IsJoinedArgument}
use Rattle.mrs_model.proofs.join.join_roles.Given as goal

abbrev pub invariant-loop-k : goal.invariant-loop-k
invariant-loop-k l = record {
  size : l.bound.size ≡ l.fn.bound.size;
  grown : IsGrown (map variable_of l.vars.left.now) (map variable_of l.vars.right.now) l.fn.bound.pairs l.bound.pairs;
  told : (to : List ℕ) → IsVariableMap (map variable_of l.vars.left.now) (map variable_of l.vars.right.now) to → Agrees to l.fn.bound.pairs → map (renamed_argument to) (map argument_of l.xs) ≡ map argument_of l.ys → Agrees to l.bound.pairs;
  done : (j : ℕ) (d e : Role) → j < l.k → IsJoinedArgument l.bound.pairs (argument_of (get_or l.xs j d)) (argument_of (get_or l.ys j e));
}
