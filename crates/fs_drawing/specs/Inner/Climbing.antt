-- What a visit for the lengths of paths knows as it goes. At each node a number is noted: 0 where it wasn't met, 1 where it is
-- open, and two more than the length of the longest path from it where it is done with.
use Rattle.std.specs.Prelude.{ℕ, ◌≡◌, ◌≢◌, ◌<◌, ◌≤◌, ◌+◌, ◌⊎◌, Option, Some, None, List, [], ◌∷◌, ◌++◌, length, drop, slice_index}
use Rattle.fs_model.specs.Claims.{Path, Has}
use Rattle.fs_model.specs.Table.{Table, walk}
use Rattle.fs_closing.specs.declared.cells.Cell.{Cell}
use Rattle.fs_closing.specs.declared.nodes.Nodes.{Nodes}
use Rattle.fs_closing.specs.Cells.{chain}
use Rattle.fs_closing.specs.Keeps.{deep_of}
use Rattle.fs_closing.specs.NodeTable.{own_row, row_of, table_of}
use Rattle.fs_drawing.specs.declared.bounds.Open.{Open}
use Rattle.fs_drawing.specs.declared.bounds.Heights.{Heights}
use Rattle.fs_drawing.specs.declared.bounds.Climb.{Climb}
use Rattle.fs_drawing.specs.declared.bounds.Climb.TheVariants.{Goes, Ended, Clashed}
use Rattle.fs_drawing.specs.Drawing.{BoundsPaths, Answers}

-- a node is done with, and no path from it is as long as a height
abbrev pub IsLower : (ℕ → ℕ) → ℕ → ℕ → Type 0
IsLower noted n high = (2 ≤ noted n) × (noted n < high + 2)

-- the height is 0, or one arc of a node leads to a node from which the longest path is one arc shorter
abbrev pub IsAttained : Nodes → (ℕ → ℕ) → ℕ → ℕ → Type 0
IsAttained nodes noted n high =
    (high ≡ 0) ⊎ ((c : Cell) × Has c (row_of nodes n) × (noted ((table_of nodes).live c.to) ≡ high + 1) × (1 ≤ high))

-- the arcs of an open node that weren't passed
abbrev pub arcs_left : Nodes → Open → List Cell
arcs_left nodes x = chain nodes.cells x.place ++ drop x.own (own_row nodes x.node)

-- an open node whose first arcs were passed
pub record IsPassing (nodes : Nodes) (noted : ℕ → ℕ) (x : Open) : Type 0 where
  pub place_in : x.place ≤ length nodes.cells
  pub left : (c : Cell) → Has c (arcs_left nodes x) → Has c (row_of nodes x.node)
  pub passed : (c : Cell) → Has c (row_of nodes x.node) → Has c (arcs_left nodes x) ⊎ IsLower noted ((table_of nodes).live c.to) x.high
  pub attained : IsAttained nodes noted x.node x.high

-- all arcs of a node lead to nodes that are done with, and are lower
pub record IsTop (nodes : Nodes) (noted : ℕ → ℕ) (n high : ℕ) : Type 0 where
  pub lower : (c : Cell) → Has c (row_of nodes n) → IsLower noted ((table_of nodes).live c.to) high
  pub attained : IsAttained nodes noted n high

-- an arc of a node leads to one that isn't done with
abbrev pub IsNext : Nodes → (ℕ → ℕ) → ℕ → ℕ → Type 0
IsNext nodes noted n to = (c : Cell) × Has c (row_of nodes n) × (to ≡ (table_of nodes).live c.to) × (to < nodes.size) × (noted to ≤ 1)

-- the arcs that were added to a node were passed, or one leads to a node that isn't done with
abbrev pub WaitsAdded : Nodes → (ℕ → ℕ) → Open → Option ℕ → Type 0
WaitsAdded nodes noted x None = IsPassing nodes noted x × (x.place ≡ 0)
WaitsAdded nodes noted x (Some to) = IsPassing nodes noted x × IsNext nodes noted x.node to

-- all arcs of a node were passed, or one leads to a node that isn't done with
abbrev pub Waits : Nodes → (ℕ → ℕ) → Open → Option ℕ → Type 0
Waits nodes noted x None = IsPassing nodes noted x × IsTop nodes noted x.node x.high
Waits nodes noted x (Some to) = IsPassing nodes noted x × IsNext nodes noted x.node to

-- some nodes without arcs that weren't met are done with: no path leads on from them
pub record AddsLeaves (nodes : Nodes) (old new : List ℕ) : Type 0 where
  pub each : (n : ℕ) → (slice_index new n ≡ slice_index old n) ⊎ ((slice_index old n ≡ 0) × (slice_index new n ≡ 2) × (row_of nodes n ≡ []))
  pub size : length new ≡ length old

-- nodes that are done with
pub record AreDone (t : Table) (noted : ℕ → ℕ) : Type 0 where
  pub lower : (n f m : ℕ) → 2 ≤ noted n → t.arc n f ≡ Some m → (2 ≤ noted (t.live m)) × (noted (t.live m) < noted n)
  pub attained : (n : ℕ) → 2 ≤ noted n → (p : Path) × (x : ℕ) × (walk t n p ≡ Some x) × (length p + 2 ≡ noted n)

-- a node that is open, to which a path leads
pub record IsOpen (nodes : Nodes) (noted : ℕ → ℕ) (x : Open) : Type 0 where
  pub node_in : x.node < nodes.size
  pub lives : (table_of nodes).live x.node ≡ x.node
  pub marked : noted x.node ≡ 1
  pub passing : IsPassing nodes noted x
  pub reached : (p : Path) × (walk (table_of nodes) 0 p ≡ Some x.node)

-- a node and one that it reaches
abbrev pub IsAbove : Table → ℕ → ℕ → Type 0
IsAbove t n m = (n ≢ m) × ((p : Path) × (walk t n p ≡ Some m))

-- each open node reaches those after it
abbrev pub AreAbove : Table → List Open → Type 0
AreAbove t [] = Unit {0}
AreAbove t (x ∷ xs) = ((y : Open) → Has y xs → IsAbove t x.node y.node) × AreAbove t xs

pub record IsClimbing (nodes : Nodes) (limit : ℕ) (noted : ℕ → ℕ) (open_nodes : List Open) : Type 0 where
  pub done : AreDone (table_of nodes) noted
  pub low : (n : ℕ) → noted n ≤ limit + 2
  pub each : (x : Open) → Has x open_nodes → IsOpen nodes noted x
  pub above : AreAbove (table_of nodes) open_nodes
  pub all : (n : ℕ) → noted n ≡ 1 → (x : Open) × Has x open_nodes × (x.node ≡ n)
  pub root : 0 < noted 0

-- the same of the lists in code, with a place for each node
pub record AreClimbing (nodes : Nodes) (limit : ℕ) (h : Heights) : Type 0 where
  pub room : nodes.size ≤ length h.notes
  pub climbing : IsClimbing nodes limit (slice_index h.notes) h.open_nodes.items

-- a visit that goes on, one that found no path that is too long, and one that found none to be without end or within the limit
abbrev pub Climbs : Nodes → ℕ → Heights → Climb → Type 0
Climbs nodes limit h Goes = AreClimbing nodes limit h
Climbs nodes limit h Ended = BoundsPaths (table_of nodes) limit
Climbs nodes limit h Clashed = Answers (deep_of nodes) limit None
