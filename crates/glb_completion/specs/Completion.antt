-- The completion of a hierarchy by the meets that it lacks (Copestake 2002, bounded completeness).
use Rattle.std.specs.Prelude.{ℕ, ◌≡◌, ◌<◌, ◌≤◌, List, ◌++◌, length, All}
use Rattle.std.specs.List.Sorted.{IsSorted}
use Rattle.std.specs.Ordering.{nat_cmp}
use Rattle.std.specs.Cmp.Lexicographic.{slice_cmp}
use Rattle.type_hierarchy.specs.Decls.{Name}
use Rattle.type_hierarchy.specs.Table.{TypeTable, IsIntersection, IsDistinct, IsFamily, table_of}
use Rattle.glb_completion.specs.declared.complete_fault.CompleteFault.{CompleteFault}
use Rattle.glb_completion.specs.declared.complete_fault.CompleteFault.TheVariants.{TooManyTypes, NoMemory}

abbrev pub most_completed : ℕ
most_completed = 65535

-- Written types keep their places, and one type is added for each nonempty intersection that no written type
-- stands for, in the lexicographic order of their members.
pub record IsCompletionOf (h : TypeTable) (strings : List Name) (t : TypeTable) : Type 0 where
  pub added : List (List ℕ)
  pub table_is : t ≡ table_of h added strings
  pub family : IsFamily h (h.sets ++ added)
  pub in_order : IsSorted (slice_cmp nat_cmp) added
  pub few : length (h.sets ++ added) ≤ most_completed

-- more nonempty intersections than may be
pub record HasTooMany (h : TypeTable) : Type 0 where
  pub sets : List (List ℕ)
  pub intersections : All (IsIntersection h) sets
  pub distinct : IsDistinct sets
  pub many : most_completed < length sets

abbrev pub IsCompleteFault : TypeTable → CompleteFault → Type 0
IsCompleteFault h TooManyTypes = HasTooMany h
IsCompleteFault h NoMemory = Unit {0}
