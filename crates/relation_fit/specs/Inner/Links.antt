-- Lists of daughters, and how far a walk along them has come.
use Rattle.std.specs.Prelude.{ℕ, ◌≡◌, ◌⊎◌, ◌<◌, Some, List, length, slice_index_or}
use Rattle.fs_model.specs.Claims.{Path, Claim, exists_at, same, below, Has}
use Rattle.fs_graph.specs.Facts.{path_of}
use Rattle.fs_graph.specs.GraphMap.{GraphMap, node_at}
use Rattle.generate_model.specs.Threads.{Open, Reaches}
use Rattle.generate_model.specs.Embedding.{moved_to}
use Rattle.generate_model.specs.Threading.{Links}
use Rattle.relation_fit.specs.Lists.{RelList}
use Rattle.relation_fit.specs.declared.links.DaughterList.{DaughterList}

abbrev pub open_seen : DaughterList → Open
open_seen d = record { start = path_of d.start.items; end = path_of d.end.items }

-- the list at a place of a list of lists begins at this node
pub record BeginsAt (g : GraphMap) (lists : List Open) (node k : ℕ) : Type 0 where
  pub inside : k < length lists
  pub begins : (o : Open) → node_at g (slice_index_or lists k o).start ≡ Some node

-- what is seen in a graph of equalities of paths
abbrev pub Seen : GraphMap → Claim → Type 0
Seen g (exists_at p) = (n : ℕ) × (node_at g p ≡ Some n)
Seen g (same p q) = (n : ℕ) × (node_at g p ≡ Some n) × (node_at g q ≡ Some n)
Seen g (below p t) = Unit {0}

-- lists that follow one another from the beginning to a path: lists of daughters and lists of its own; and those that are left
pub record Linked (g : GraphMap) (l : RelList) (places : List Path) (left : List Open) (path : Path) : Type 0 where
  pub opens : List Open
  pub links : Links (Seen g) l.ends.start opens path
  pub each : (o : Open) → Has o opens → ((place : Path) × Has place places × (o ≡ moved_to place l.ends)) ⊎ ((n : ℕ) × Reaches (Seen g) l.rest o n)
  pub all : (place : Path) → Has place places → Has (moved_to place l.ends) opens ⊎ Has (moved_to place l.ends) left
  pub among : (o : Open) → Has o left → (place : Path) × Has place places × (o ≡ moved_to place l.ends)
