-- Lists of M as they are walked, cell by cell.
use Rattle.std.specs.Prelude.{ℕ, ◌≡◌, ◌≢◌, ◌⊎◌, ◌+◌, Option, Some, Bool, true, false, Ok, Err, List, [], ◌∷◌, ◌++◌, map, replicate, length}
use Rattle.std.specs.String.{string_bytes}
use Rattle.std.specs.Borrow.{Bor}
use Rattle.fs_graph.specs.declared.graph.Node.{Node}
use Rattle.type_hierarchy.specs.Table.{TypeTable}
use Rattle.fs_graph.specs.GraphMap.{GraphMap, type_at, arcs_at, arc_to}
use Rattle.mrs_places.specs.declared.paths.MrsFeat.{MrsFeat}
use Rattle.mrs_places.specs.declared.lists.Turn.{Turn}
use Rattle.mrs_places.specs.declared.lists.Turn.TheVariants.{End, Open, Cell}
use Rattle.mrs_places.specs.Paths.{Feature, Paths}
use Rattle.mrs_places.specs.Looking.{NamedPath, Sought, Place, Walks, names, and_more, below}

abbrev pub names_at : List (Bor MrsFeat) → NamedPath
names_at feats = map (λ f. string_bytes f.now.name) feats

-- the place of M
abbrev pub mrs_place : Paths → ℕ → Place
mrs_place p m = record { node = m; path = names p.mrs_path }

-- the path of the list at a feature of M
abbrev pub start_path : Paths → Feature → NamedPath
start_path p list = (names p.mrs_path ++ list.name ∷ []) ++ p.diff_list.name ∷ []

-- the path of a cell of that list
abbrev pub cell_path : Paths → Feature → ℕ → NamedPath
cell_path p list k = start_path p list ++ replicate k p.rest.name

-- the path of that cell's element
abbrev pub element_path : Paths → Feature → ℕ → NamedPath
element_path p list k = cell_path p list k ++ p.first.name ∷ []

-- nodes at the paths of the k-th cell and of those after it
abbrev pub placed : (ℕ → NamedPath) → ℕ → List ℕ → List Place
placed path k [] = []
placed path k (n ∷ ns) = record { node = n; path = path k } ∷ placed path (k + 1) ns

-- cells, the first one at a path
abbrev pub cells_from : List ℕ → NamedPath → List ℕ → List Place
cells_from rest path ns = placed (λ k. path ++ replicate k rest) 0 ns

-- how a walk ended: these are all cells, or the path behind them is missing
abbrev pub walk_end : List ℕ → NamedPath → List ℕ → Bool → Sought (List Place)
walk_end rest path cells true = Ok (cells_from rest path cells)
walk_end rest path cells false = Err (path ++ replicate (length cells) rest)

abbrev pub nodes_of : List Node → List ℕ
nodes_of ns = map (λ n. n.0) ns

-- so many arcs lead from a node to another
pub data Along (g : GraphMap) (from : ℕ) : ℕ → ℕ → Type 0 where
  stays : Along g from 0 from
  further : (k n m f : ℕ) → Along g from k n → arc_to (arcs_at g n) f ≡ Some m → Along g from (k + 1) m

-- a list after these cells
abbrev pub after_cells : List Place → Sought (List Place) → Sought (List Place)
after_cells [] out = out
after_cells (c ∷ cs) out = and_more c (after_cells cs out)

-- these cells were passed, so that the walk goes on at a node
pub record IsPassed (g : GraphMap) (types : TypeTable) (p : Paths) (last : Option ℕ) (start : ℕ) (cells : List ℕ) (node : ℕ) : Type 0 where
  pub along : Along g start (length cells) node
  pub back : (path : NamedPath) (out : Sought (List Place)) → Walks g types p last (record { node = node; path = path ++ replicate (length cells) p.rest.name }) out
      → Walks g types p last (record { node = start; path = path }) (after_cells (cells_from p.rest.name path cells) out)

-- what a node is to a walk
abbrev pub IsTurn : GraphMap → TypeTable → Paths → Option ℕ → ℕ → Turn → Type 0
IsTurn g types p last n End = (last ≡ Some n) ⊎ (below types (type_at g n) p.null ≡ true)
IsTurn g types p last n Open = (last ≢ Some n) × (below types (type_at g n) p.null ≡ false) × (below types (type_at g n) p.cons ≡ false)
IsTurn g types p last n Cell = (last ≢ Some n) × (below types (type_at g n) p.null ≡ false) × (below types (type_at g n) p.cons ≡ true)
