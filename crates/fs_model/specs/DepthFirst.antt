-- A depth-first visit of nodes whose arcs stand in rows by rising feature.
use Rattle.std.specs.Prelude.{ℕ, suc, ◌≡◌, ◌≢◌, ◌<◌, ◌≤◌, ◌+◌, ◌⊎◌, Bool, true, false, Option, Some, [], ◌∷◌, ◌++◌}
use Rattle.fs_model.specs.Claims.{Path}
use Rattle.fs_model.specs.Table.{Table}
use Rattle.fs_model.specs.Numbering.{IsBefore}

-- The arcs of node n are those from `start n` to `start (n + 1)`.
pub record Plan : Type 0 where
  pub nodes : ℕ
  pub start : ℕ → ℕ
  pub feat : ℕ → ℕ
  pub to : ℕ → ℕ

abbrev pub IsArc : Plan → ℕ → ℕ → Type 0
IsArc p n i = (p.start n ≤ i) × (i < p.start (n + 1))

-- features rise along a node's arcs, which lead to nodes
pub record IsPlan (p : Plan) : Type 0 where
  pub rise : (n : ℕ) → n < p.nodes → p.start n ≤ p.start (n + 1)
  pub rising : (n i j : ℕ) → n < p.nodes → p.start n ≤ i → i < j → j < p.start (n + 1) → p.feat i < p.feat j
  pub to_in : (n i : ℕ) → n < p.nodes → IsArc p n i → p.to i < p.nodes

-- a path leads from a node to a node
pub data Leads (p : Plan) : ℕ → Path → ℕ → Type 0 where
  ends : (n : ℕ) → Leads p n [] n
  goes : (n i f k : ℕ) (q : Path) → IsArc p n i → p.feat i ≡ f → Leads p (p.to i) q k → Leads p n (f ∷ q) k

-- the number of a node that isn't met yet
abbrev pub missing : ℕ
missing = 4294967295

-- A visit as one sees it from outside: the number of each node that was met, the nodes by number, the nodes that are
-- done with, and the open nodes, from the root to the one that is visited, each with the place of its next arc.
pub record View : Type 0 where
  pub number : ℕ → ℕ
  pub count : ℕ
  pub node_of : ℕ → ℕ
  pub closed : ℕ → Bool
  pub depth : ℕ
  pub open_node : ℕ → ℕ
  pub next : ℕ → ℕ

-- What a visit knows. Nodes were met by their least paths; heights fall along the arcs of nodes that are done with;
-- `paths` leads to the open nodes.
pub record Going (p : Plan) (v : View) : Type 0 where
  pub met : (n : ℕ) → n < p.nodes → v.number n ≢ missing → (v.number n < v.count) × (v.node_of (v.number n) ≡ n)
  pub ordered : (i : ℕ) → i < v.count → (v.node_of i < p.nodes) × (v.number (v.node_of i) ≡ i)
  pub root : (0 < v.count) × (v.node_of 0 ≡ 0)
  pub few : v.count ≤ missing
  pub least : ℕ → Path
  pub leads : (i : ℕ) → i < v.count → Leads p 0 (least i) (v.node_of i)
  pub is_least : (i : ℕ) (q : Path) → i < v.count → Leads p 0 q (v.node_of i) → (least i ≡ q) ⊎ IsBefore (least i) q
  pub rises : (i j : ℕ) → i < j → j < v.count → IsBefore (least i) (least j)
  pub height : ℕ → ℕ
  pub bound : ℕ
  pub done : (n : ℕ) → n < p.nodes → v.closed n ≡ true → (v.number n ≢ missing) × (height n < bound)
  pub done_arcs : (n i : ℕ) → n < p.nodes → v.closed n ≡ true → IsArc p n i → (v.closed (p.to i) ≡ true) × (height (p.to i) < height n)
  pub paths : ℕ → Path
  pub open_in : (k : ℕ) → k < v.depth → (v.open_node k < p.nodes) × (v.number (v.open_node k) ≢ missing)
  pub open_next : (k : ℕ) → k < v.depth → (p.start (v.open_node k) ≤ v.next k) × (v.next k ≤ p.start (v.open_node k + 1))
  pub open_not : (k : ℕ) → k < v.depth → v.closed (v.open_node k) ≡ false
  pub distinct : (j k : ℕ) → j < k → k < v.depth → v.open_node j ≢ v.open_node k
  pub open_all : (n : ℕ) → n < p.nodes → v.number n ≢ missing → v.closed n ≡ false → (k : ℕ) × (k < v.depth) × (v.open_node k ≡ n)
  pub base : 0 < v.depth → (v.open_node 0 ≡ 0) × (paths 0 ≡ [])
  pub link : (k : ℕ) → suc k < v.depth → (i : ℕ) × (v.next k ≡ i + 1) × IsArc p (v.open_node k) i × (p.to i ≡ v.open_node (suc k))
      × (paths (suc k) ≡ paths k ++ p.feat i ∷ [])
  pub passed : (k i : ℕ) → k < v.depth → p.start (v.open_node k) ≤ i → i + 1 < v.next k → v.closed (p.to i) ≡ true
  pub passed_last : (k i : ℕ) → k + 1 ≡ v.depth → p.start (v.open_node k) ≤ i → i < v.next k → v.closed (p.to i) ≡ true
  pub after : (k i j : ℕ) → k < v.depth → v.next k ≤ i → i < p.start (v.open_node k + 1) → j < v.count →
      IsBefore (least j) (paths k ++ p.feat i ∷ [])

-- What a visit has found where no node is open: all that the root reaches is met, and nothing that it reaches reaches itself.
pub record IsSettled (p : Plan) (number node_of : ℕ → ℕ) (count : ℕ) : Type 0 where
  pub root : (0 < count) × (node_of 0 ≡ 0)
  pub few : count ≤ missing
  pub ordered : (i : ℕ) → i < count → (node_of i < p.nodes) × (number (node_of i) ≡ i)
  pub arcs : (i j : ℕ) → i < count → IsArc p (node_of i) j → (number (p.to j) < count) × (node_of (number (p.to j)) ≡ p.to j)
  pub least : ℕ → Path
  pub leads : (i : ℕ) → i < count → Leads p 0 (least i) (node_of i)
  pub is_least : (i : ℕ) (q : Path) → i < count → Leads p 0 q (node_of i) → (least i ≡ q) ⊎ IsBefore (least i) q
  pub rises : (i j : ℕ) → i < j → j < count → IsBefore (least i) (least j)
  pub height : ℕ → ℕ
  pub falls : (i j : ℕ) → i < count → IsArc p (node_of i) j → height (p.to j) < height (node_of i)

-- the arcs of a table are those of the rows
pub record AreArcs (p : Plan) (arc : ℕ → ℕ → Option ℕ) : Type 0 where
  pub found : (n f m : ℕ) → n < p.nodes → arc n f ≡ Some m → (i : ℕ) × IsArc p n i × (p.feat i ≡ f) × (p.to i ≡ m)
  pub there : (n i : ℕ) → n < p.nodes → IsArc p n i → arc n (p.feat i) ≡ Some (p.to i)

-- a table of nodes of which none was merged
abbrev pub plain : ℕ → (ℕ → ℕ → Option ℕ) → (ℕ → ℕ) → Table
plain size arc type_of = record { size = size; live = λ n. n; arc = arc; type_of = type_of }
