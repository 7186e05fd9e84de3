-- The paths that lead from the root, counted as far as a limit.
use Rattle.std.specs.Prelude.{ℕ, ◌≡◌, ◌<◌, ◌≤◌, ◌+◌, Bool, true, false, Some, List, [], ◌∷◌, ◌++◌, map, length, slice_index_or}
use Rattle.fs_model.specs.Claims.{Path}
use Rattle.fs_model.specs.Sources.{Told}
use Rattle.fs_graph.specs.declared.graph.GraphArc.{GraphArc}
use Rattle.fs_graph.specs.GraphMap.{arc_to}
use Rattle.fs_closing.specs.Rules.{system_of}
use Rattle.forced_types.specs.declared.counting.End.{End}
use Rattle.forced_types.specs.declared.given.Given.{Given}
use Rattle.forced_types.specs.declared.nodes.Nodes.{Nodes}
use Rattle.forced_types.specs.Limits.{AreApart, HasMoreForced}
use Rattle.forced_types.specs.Inner.Entries.{path_at}
use Rattle.forced_types.specs.Inner.Sound.{most_of, entry_in, source_in}
use Rattle.forced_types.specs.Inner.Closed.{IsClosed, walk_in}

-- what is given forces more paths than a limit
abbrev pub ForcesMore : Given → ℕ → Type 0
ForcesMore g limit = HasMoreForced (system_of g.system.now) (Told (source_in g)) limit

-- more paths than a limit lead from the root, beside the one to it
pub record LeadMore (g : Given) (t : Nodes) (limit : ℕ) : Type 0 where
  pub paths : List Path
  pub apart : AreApart paths
  pub lead : (i : ℕ) → i < length paths → (n : ℕ) × (walk_in t 0 (path_at paths i) ≡ Some n) × (length (path_at paths i) ≤ most_of g)
  pub more : limit + 1 < length paths

-- whether no more do
abbrev pub Counts : Given → Nodes → ℕ → Bool → Type 0
Counts g t limit true = LeadMore g t limit → ⊥
Counts g t limit false = LeadMore g t limit

-- whether nodes say all that is forced, and no more paths than a limit are
abbrev pub ClosedWithin : Given → ℕ → Nodes → Bool → Type 0
ClosedWithin g limit t true = IsClosed g t × (ForcesMore g limit → ⊥)
ClosedWithin g limit t false = ForcesMore g limit

abbrev pub end_at : List End → ℕ → End
end_at ends i = slice_index_or ends i (record { node = 0; size = 0 })

-- the ends of paths of so many features along arcs
abbrev pub ends_by : Nodes → ℕ → List GraphArc → List End
ends_by t size arcs = map (λ a. record { node = (entry_in t a.to.0).up; size = size }) arcs

-- What is known while paths are followed, shorter ones first: those that were found, and the end of each. Of the first ones all that go one
-- arc further were found, as far as paths may go.
pub record AreFollowed (g : Given) (t : Nodes) (ends : List End) (done : ℕ) : Type 0 where
  pub paths : List Path
  pub even : length paths ≡ length ends
  pub some : 0 < length ends
  pub sizes : (i : ℕ) → i < length ends → (end_at ends i).size ≡ length (path_at paths i)
  pub short : (i : ℕ) → i < length ends → length (path_at paths i) ≤ most_of g
  pub lead : (i : ℕ) → i < length ends → walk_in t 0 (path_at paths i) ≡ Some (end_at ends i).node
  pub apart : AreApart paths
  pub root : path_at paths 0 ≡ []
  pub parents : (i : ℕ) → 0 < i → i < length ends → (j : ℕ) × (f : ℕ) × (j < done) × (path_at paths i ≡ path_at paths j ++ f ∷ [])
  pub further : (j f m : ℕ) → j < done → j < length ends → length (path_at paths j) < most_of g →
      arc_to (entry_in t (end_at ends j).node).arcs f ≡ Some m → (i : ℕ) × (i < length ends) × (path_at paths i ≡ path_at paths j ++ f ∷ [])
