-- The search outwards: rules by which an entry's word leads to the word at node 0.
use Rattle.std.specs.Prelude.{ℕ, ◌≡◌, ◌<◌, ◌≤◌, ◌++◌, List, [], ◌∷◌, length}
use Rattle.lexicon.specs.Words.{Has}
use Rattle.morph_analysis.specs.Spelled.{EdgeTree, NodeTree, node_at, Runs}

-- each edge leads to a node, and no node is farther from node 0 than it says
pub record AreWithin (nodes : List NodeTree) : Type 0 where
  pub edges : (n : ℕ) (e : EdgeTree) → n < length nodes → Has e (node_at nodes n).edges → e.to < length nodes
  pub near : (rules : List ℕ) (n : ℕ) → n < length nodes → Runs nodes rules n 0 → (node_at nodes n).distance ≤ length rules

-- a node of such a graph, from which a search outwards may start
pub record IsStart (nodes : List NodeTree) (node : ℕ) : Type 0 where
  pub within : AreWithin nodes
  pub there : node < length nodes

-- at most so many rules by which edges lead from a node to node 0, with what is made of an entry and them
abbrev pub IsRouteOf : {V : Type 0} → List NodeTree → (ℕ → List ℕ → V → Type 0) → ℕ → ℕ → ℕ → List ℕ → V → Type 0
IsRouteOf nodes A depth start entry rules v = Runs nodes rules start 0 × A entry rules v × (length rules ≤ depth)

-- such rules that go on from these, which lead to a node
pub record IsOn {V : Type 0} (nodes : List NodeTree) (A : ℕ → List ℕ → V → Type 0) (depth : ℕ) (rules : List ℕ) (node entry : ℕ) (all : List ℕ) (v : V) : Type 0 where
  pub more : List ℕ
  pub is : all ≡ rules ++ more
  pub runs : Runs nodes more node 0
  pub made : A entry all v
  pub shallow : length all ≤ depth

-- such rules that go on along an edge
abbrev pub IsAlong : {V : Type 0} → List NodeTree → (ℕ → List ℕ → V → Type 0) → ℕ → List ℕ → EdgeTree → ℕ → List ℕ → V → Type 0
IsAlong nodes A depth rules e entry all v = IsOn nodes A depth (rules ++ e.rule ∷ []) e.to entry all v

-- such rules that end here
pub record IsEnded {V : Type 0} (A : ℕ → List ℕ → V → Type 0) (rules : List ℕ) (node entry : ℕ) (all : List ℕ) (v : V) : Type 0 where
  pub there : node ≡ 0
  pub is : all ≡ rules
  pub made : A entry all v

-- what was made with one rule more, along an edge
pub record IsLonger {V : Type 0} (A : ℕ → List ℕ → V → Type 0) (depth : ℕ) (rules : List ℕ) (e : EdgeTree) (entry : ℕ) (longer : List ℕ) (node : ℕ) (v : V) : Type 0 where
  pub is : longer ≡ rules ++ e.rule ∷ []
  pub node_is : node ≡ e.to
  pub made : A entry longer v
  pub room : length rules < depth
