-- The paths of a table, counted as far as a limit.
use Rattle.std.specs.Prelude.{ℕ, ◌≡◌, ◌≢◌, ◌<◌, ◌+◌, Bool, true, false, Some, List, [], ◌∷◌, ◌++◌, length, slice_index, slice_index_or}
use Rattle.type_hierarchy.specs.declared.types.Ty.{Ty}
use Rattle.fs_model.specs.Claims.{Path}
use Rattle.fs_model.specs.Table.{Table, walk}
use Rattle.fs_graph.specs.declared.graph.GraphArc.{GraphArc}
use Rattle.fs_graph.specs.GraphMap.{GraphMap, table_of, arcs_at, arc_to}
use Rattle.fs_graph.specs.Orders.{ArePlan}

-- no path of a list is there twice
abbrev pub AreApart : List Path → Type 0
AreApart ps = (i j : ℕ) → i < j → j < length ps → slice_index_or ps i [] ≢ slice_index_or ps j []

-- more paths than a limit lead from the root, beside the one to it
pub record LeadsMore (t : Table) (limit : ℕ) : Type 0 where
  pub paths : List Path
  pub apart : AreApart paths
  pub lead : (i : ℕ) → i < length paths → (n : ℕ) × (walk t 0 (slice_index_or paths i []) ≡ Some n)
  pub more : limit + 1 < length paths

-- whether no more do
abbrev pub Counts : Table → ℕ → Bool → Type 0
Counts t limit true = LeadsMore t limit → ⊥
Counts t limit false = LeadsMore t limit

-- rows of arcs have one for this node
abbrev pub HaveRow : List ℕ → List GraphArc → ℕ → Type 0
HaveRow starts arcs n = (types : List Ty) × ArePlan types starts arcs × (n < length types)

-- What is known while paths are followed, shorter ones first: those that were found, and the node at the end of each. Of the first ones
-- all that go one arc further were found.
pub record AreFollowed (g : GraphMap) (ends : List ℕ) (done : ℕ) : Type 0 where
  pub paths : List Path
  pub even : length paths ≡ length ends
  pub some : 0 < length ends
  pub lead : (i : ℕ) → i < length ends → walk (table_of g) 0 (slice_index_or paths i []) ≡ Some (slice_index ends i)
  pub apart : AreApart paths
  pub root : slice_index_or paths 0 [] ≡ []
  pub parents : (i : ℕ) → 0 < i → i < length ends →
      (j : ℕ) × (f : ℕ) × (j < done) × (slice_index_or paths i [] ≡ slice_index_or paths j [] ++ f ∷ [])
  pub further : (j f m : ℕ) → j < done → j < length ends → arc_to (arcs_at g (slice_index ends j)) f ≡ Some m →
      (i : ℕ) × (i < length ends) × (slice_index_or paths i [] ≡ slice_index_or paths j [] ++ f ∷ [])
