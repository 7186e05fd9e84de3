-- Nodes numbered by the order of their least paths, and the heights of nodes.
use Rattle.std.specs.Prelude.{ℕ, ◌≡◌, ◌<◌, ◌⊎◌, true, Some, [], ◌∷◌}
use Rattle.fs_model.specs.Claims.{Path, System}
use Rattle.fs_model.specs.Sources.{Reader}
use Rattle.fs_model.specs.Table.{Table, IsTable, walk}

-- paths are ordered feature by feature, a prefix first
pub data IsBefore : Path → Path → Type 0 where
  shorter : {f : ℕ} {p : Path} → IsBefore [] (f ∷ p)
  smaller : {f g : ℕ} {p q : Path} → f < g → IsBefore (f ∷ p) (g ∷ q)
  further : {f : ℕ} {p q : Path} → IsBefore p q → IsBefore (f ∷ p) (f ∷ q)

-- the least of the paths that lead to a node
pub record IsLeastPath (r : Reader) (n : ℕ) (p : Path) : Type 0 where
  pub leads : r.node_at p ≡ Some n
  pub least : (q : Path) → r.node_at q ≡ Some n → (p ≡ q) ⊎ IsBefore p q

-- a table read by paths from its first node
abbrev pub seen : Table → Reader
seen t = record { node_at = walk t 0; type_of = t.type_of }

-- each node is reached, and the nodes' least paths rise
pub record IsNumbered (t : Table) (least : ℕ → Path) : Type 0 where
  pub table : IsTable t
  pub live_is : (n : ℕ) → t.live n ≡ n
  pub filled : 0 < t.size
  pub is_least : (n : ℕ) → n < t.size → IsLeastPath (seen t) n (least n)
  pub rises : (m n : ℕ) → m < n → n < t.size → IsBefore (least m) (least n)

-- a number for each node that falls along each arc
pub record HasHeights (t : Table) (height : ℕ → ℕ) : Type 0 where
  pub falls : (n f m : ℕ) → n < t.size → t.live n ≡ n → t.arc n f ≡ Some m → height (t.live m) < height n

-- two tables with the same nodes, types and arcs
pub record IsSameTable (t u : Table) : Type 0 where
  pub size : t.size ≡ u.size
  pub types : (n : ℕ) → n < t.size → t.type_of n ≡ u.type_of n
  pub arcs : (n f : ℕ) → n < t.size → t.arc n f ≡ u.arc n f

-- a map of nodes that keeps the root and the arcs, and lowers the types
pub record IsMatching (s : System) (general special : Table) (to : ℕ → ℕ) : Type 0 where
  pub root : to 0 ≡ 0
  pub arcs : (n f m : ℕ) → n < general.size → general.arc n f ≡ Some m → special.arc (to n) f ≡ Some (to m)
  pub types : (n : ℕ) → n < general.size → s.is_below (special.type_of (to n)) (general.type_of n) ≡ true
