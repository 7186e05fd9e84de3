-- The list of a structure's paths, and what is known while it is written.
use Rattle.std.specs.Prelude.{ℕ, ◌≡◌, ◌<◌, ◌+◌, ◌*◌, Option, Some, None, List, [], ◌∷◌, ◌++◌, map, length, All, slice_index_or, is_none}
use Rattle.std.specs.List.{count_by, sum_by}
use Rattle.fs_model.specs.Claims.{Path}
use Rattle.fs_model.specs.Sources.{Reader}
use Rattle.fs_model.specs.Numbering.{IsBefore}
use Rattle.fs_model.specs.Listing.{AreLeast, IsShown, path_at, IsIn, Listing}
use Rattle.fs_graph.specs.declared.facts.PathLine.{PathLine}
use Rattle.fs_graph.specs.Facts.{Line, line_of}
use Rattle.fs_graph.specs.declared.lines.Waiting.{Waiting}
use Rattle.fs_graph.specs.GraphMap.{GraphMap, table_of, reader_of, IsGraph}

-- a path to a node with the node's type, where each path that it goes on from is the least one to its node
pub record IsLineOf (r : Reader) (l : Line) : Type 0 where
  pub node : ℕ
  pub leads : r.node_at l.path ≡ Some node
  pub typed : l.ty ≡ r.type_of node
  pub shown : IsShown r node l.path l.same_as
  pub first_met : AreLeast r l.path

abbrev pub paths_of : List Line → List Path
paths_of lines = map (λ l. l.path) lines

-- all such paths, in their order
pub record IsPathList (r : Reader) (lines : List Line) : Type 0 where
  pub rises : (i j : ℕ) → i < j → j < length lines → IsBefore (path_at (paths_of lines) i) (path_at (paths_of lines) j)
  pub sound : All (IsLineOf r) lines
  pub whole : (p : Path) (n : ℕ) → r.node_at p ≡ Some n → AreLeast r p → IsIn (paths_of lines) p

-- the path that waits, by its node's least path
abbrev pub wait_path : (ℕ → Path) → Waiting → Path
wait_path least w = least w.from.0 ++ w.arc.feat.0 ∷ []

-- the place of a node's first line
abbrev pub IsFirst : List Path → Path → Option ℕ → Type 0
IsFirst listed p None = IsIn listed p → ⊥
IsFirst listed p (Some i) = (i < length listed) × (path_at listed i ≡ p)

pub record IsListed (g : GraphMap) (lines : List PathLine) (firsts : List (Option ℕ)) (waiting : List Waiting) : Type 0 where
  pub graph : IsGraph g
  pub listing : Listing (table_of g) graph.least (paths_of (map line_of lines)) (map (wait_path graph.least) waiting)
  pub arcs : All (λ w. (w.from.0 < length g.types) × ((table_of g).arc w.from.0 w.arc.feat.0 ≡ Some w.arc.to.0)) waiting
  pub firsts_all : length firsts ≡ length g.types
  pub firsts_are : (n : ℕ) → n < length g.types → IsFirst (paths_of (map line_of lines)) (graph.least n) (slice_index_or firsts n None)
  pub sound : All (λ l. IsLineOf (reader_of g) (line_of l)) lines

-- what is left to do
abbrev pub unlisted : List (Option ℕ) → ℕ
unlisted firsts = count_by is_none firsts

abbrev pub lines_left : GraphMap → List (Option ℕ) → List Waiting → ℕ
lines_left g firsts waiting = unlisted firsts * (sum_by length g.arcs + 1) + length waiting
