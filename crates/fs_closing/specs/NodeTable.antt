-- Nodes as a table.
use Rattle.std.specs.Prelude.{ℕ, ◌≡◌, ◌<◌, ◌≤◌, ◌^◌, Option, None, length, List, [], ◌++◌}
use Rattle.fs_model.specs.Claims.{Has}
use Rattle.fs_model.specs.Table.{Table}
use Rattle.fs_closing.specs.declared.marks.Written.{Written}
use Rattle.fs_closing.specs.declared.cells.Cell.{Cell}
use Rattle.fs_closing.specs.declared.nodes.Nodes.{Nodes}
use Rattle.fs_closing.specs.Beside.{row_in, type_in, depth_in, ArePlaced}
use Rattle.fs_closing.specs.Cells.{chain, find_arc, PlacesFall, AreOnce}
use Rattle.fs_closing.specs.Marked.{written_at, next_by, type_by, first_by, depth_by, chase, Rises}

-- the arcs of a node: those that were added, then those that it has from its graph
abbrev pub arcs_in : (ℕ → Option Written) → (ℕ → List Cell) → List Cell → ℕ → List Cell
arcs_in at own cells n = chain cells (first_by (at n)) ++ own n

-- `at` has what is written at each node, `own` and `own_type` what a node has from its graph
abbrev pub table_from : (ℕ → Option Written) → (ℕ → ℕ) → (ℕ → List Cell) → List Cell → ℕ → ℕ → Table
table_from at own_type own cells merges size =
    record {
      size = size;
      live = chase (λ n. next_by n (at n)) merges;
      arc = λ n f. find_arc (arcs_in at own cells n) f;
      type_of = λ n. type_by (own_type n) (at n);
    }

abbrev pub at_of : Nodes → ℕ → Option Written
at_of nodes n = written_at nodes.marks n

abbrev pub own_type : Nodes → ℕ → ℕ
own_type nodes n = type_in nodes.parts n

abbrev pub own_depth : Nodes → ℕ → ℕ
own_depth nodes n = depth_in nodes.parts n

abbrev pub own_row : Nodes → ℕ → List Cell
own_row nodes n = row_in nodes.parts n

-- the place of a node's first added arc, and a number of features that some path to it has at least
abbrev pub first_of : Nodes → ℕ → ℕ
first_of nodes n = first_by (at_of nodes n)

abbrev pub depth_of : Nodes → ℕ → ℕ
depth_of nodes n = depth_by (own_depth nodes n) (at_of nodes n)

abbrev pub row_of : Nodes → ℕ → List Cell
row_of nodes n = arcs_in (at_of nodes) (own_row nodes) nodes.cells n

abbrev pub table_of : Nodes → Table
table_of nodes = table_from (at_of nodes) (own_type nodes) (own_row nodes) nodes.cells nodes.merges nodes.size

-- What is kept: forwards that end, the root's at the root itself; places that fall; no feature of a node comes twice; and each
-- arc leads to a node.
pub record AreWhole (at : ℕ → Option Written) (own : ℕ → List Cell) (cells : List Cell) (merges size : ℕ) : Type 0 where
  pub small : size < 2 ^ 32
  pub few : length cells < 2 ^ 32
  pub unwritten : (n : ℕ) → size ≤ n → at n ≡ None
  pub root : next_by 0 (at 0) ≡ 0
  pub rises : Rises (λ n. next_by n (at n)) merges
  pub forward_in : (n : ℕ) → n < size → next_by n (at n) < size
  pub places : PlacesFall cells
  pub first_in : (n : ℕ) → n < size → first_by (at n) ≤ length cells
  pub once : (n : ℕ) → n < size → AreOnce (arcs_in at own cells n)
  pub to_in : (c : Cell) → Has c cells → c.to < size
  pub own_in : (n : ℕ) (c : Cell) → Has c (own n) → c.to < size
  pub own_none : (n : ℕ) → size ≤ n → own n ≡ []

-- the same of nodes, for each of which there is a place for what is written, and whose graphs have no others
pub record IsWhole (nodes : Nodes) : Type 0 where
  pub stands : AreWhole (at_of nodes) (own_row nodes) nodes.cells nodes.merges nodes.size
  pub enough : nodes.size ≤ length nodes.marks
  pub placed : ArePlaced nodes.parts nodes.size

-- no type and no feature out of range, where there are `type_count` types and `feat_count` features
pub record AreWithin (type_count feat_count : ℕ) (type_of : ℕ → ℕ) (own : ℕ → List Cell) (cells : List Cell) (size : ℕ) : Type 0 where
  pub type_in : (n : ℕ) → n < size → type_of n < type_count
  pub feat_in : (c : Cell) → Has c cells → c.feat < feat_count
  pub own_feat : (n : ℕ) (c : Cell) → Has c (own n) → c.feat < feat_count

abbrev pub IsWithin : ℕ → ℕ → Nodes → Type 0
IsWithin type_count feat_count nodes =
    AreWithin type_count feat_count (table_of nodes).type_of (own_row nodes) nodes.cells nodes.size

-- no path to a node needs a feature
abbrev pub AreFlat : Nodes → Type 0
AreFlat nodes = (n : ℕ) → depth_of nodes n ≡ 0
