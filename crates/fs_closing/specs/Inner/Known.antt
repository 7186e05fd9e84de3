-- Constraints that a type system knows, and where each type's is.
use Rattle.std.specs.Prelude.{ℕ, ◌≡◌, ◌≤◌, ◌+◌, List, length, slice_index_or}
use Rattle.type_hierarchy.specs.Table.{count_of}
use Rattle.fs_model.specs.Claims.{Has}
use Rattle.fs_closing.specs.declared.constraint.Constraint.{Constraint}
use Rattle.fs_closing.specs.Constraints.{IsConstraint}
use Rattle.fs_closing.specs.Rules.{Grammar}

-- For each type the place behind that of its constraint, and 0 where it isn't known.
pub record AreKnown (g : Grammar) (known : List Constraint) (starts : List ℕ) : Type 0 where
  pub each : length starts ≡ count_of g.types
  pub graphs : (x : Constraint) → Has x known → IsConstraint g x.ty x.graph
  pub start_in : (t : ℕ) → slice_index_or starts t 0 ≤ length known
  pub start_is : (t k : ℕ) (d : Constraint) → slice_index_or starts t 0 ≡ k + 1 → (slice_index_or known k d).ty ≡ t
