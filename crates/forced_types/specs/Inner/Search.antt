-- The least path that leads to a clash, or that is too long.
use Rattle.std.specs.Prelude.{ℕ, ◌≡◌, ◌<◌, ◌≤◌, ◌+◌, ◌-◌, ◌⊎◌, Some, None, List, length, slice_index_or}
use Rattle.type_hierarchy.specs.Table.{meet_of}
use Rattle.fs_model.specs.Claims.{Path, Has}
use Rattle.fs_model.specs.Numbering.{IsBefore}
use Rattle.fs_graph.specs.declared.graph.GraphArc.{GraphArc}
use Rattle.fs_graph.specs.GraphMap.{arc_to}
use Rattle.forced_types.specs.declared.given.Given.{Given}
use Rattle.forced_types.specs.declared.nodes.Nodes.{Nodes}
use Rattle.forced_types.specs.declared.search.Aim.{Aim}
use Rattle.forced_types.specs.declared.search.Aim.TheVariants.{Clash, Long}
use Rattle.forced_types.specs.Inner.Sound.{most_of, size_of, entry_in}
use Rattle.forced_types.specs.Inner.Closed.{walk_in}

-- two types of a node have no common one
pub record IsClash (g : Given) (t : Nodes) (n : ℕ) : Type 0 where
  pub first : ℕ
  pub second : ℕ
  pub first_has : Has first (entry_in t n).types
  pub second_has : Has second (entry_in t n).types
  pub apart : meet_of g.system.now.types first second ≡ None

-- a path of so many features to a node is one that is looked for
abbrev pub IsGoal : Given → Nodes → Aim → ℕ → ℕ → Type 0
IsGoal g t Clash n size = IsClash g t n
IsGoal g t Long n size = size ≡ most_of g

abbrev pub mark_at : List ℕ → ℕ → ℕ
mark_at marks n = slice_index_or marks n 0

-- the greatest mark of a node with an arc to a node of a mark
abbrev pub stepped : Aim → ℕ → ℕ
stepped Clash mark = mark + 1
stepped Long mark = mark - 1

-- a path of so many features to a node of a mark may go on to an aim
abbrev pub IsNear : Aim → ℕ → ℕ → ℕ → Type 0
IsNear Clash most mark size = mark + size ≤ most
IsNear Long most mark size = mark ≤ size

-- a node's mark is no greater than it may be
pub record IsMarked (g : Given) (t : Nodes) (aim : Aim) (marks : List ℕ) (n : ℕ) : Type 0 where
  pub goal : IsGoal g t aim n 0 → mark_at marks n ≡ 0
  pub last : IsGoal g t aim n (most_of g) → mark_at marks n ≤ most_of g
  pub arcs : (f m : ℕ) → arc_to (entry_in t n).arcs f ≡ Some m → mark_at marks n ≤ stepped aim (mark_at marks (entry_in t m).up)

abbrev pub AreMarked : Given → Nodes → Aim → List ℕ → Type 0
AreMarked g t aim marks = (n : ℕ) → n < size_of t → IsMarked g t aim marks n

-- the arc of least feature that may lead to an aim
pub record IsPick (g : Given) (t : Nodes) (aim : Aim) (marks : List ℕ) (n size : ℕ) (a : GraphArc) : Type 0 where
  pub arc : arc_to (entry_in t n).arcs a.feat.0 ≡ Some a.to.0
  pub least : (f m : ℕ) → arc_to (entry_in t n).arcs f ≡ Some m → IsNear aim (most_of g) (mark_at marks (entry_in t m).up) size → a.feat.0 ≤ f

-- the least path that is looked for
pub record IsLeastGoal (g : Given) (t : Nodes) (aim : Aim) (p : Path) : Type 0 where
  pub short : length p ≤ most_of g
  pub end : ℕ
  pub leads : walk_in t 0 p ≡ Some end
  pub goal : IsGoal g t aim end (length p)
  pub least : (q : Path) (m : ℕ) → length q ≤ most_of g → walk_in t 0 q ≡ Some m → IsGoal g t aim m (length q) → (p ≡ q) ⊎ IsBefore p q
