-- Nodes say all that is forced.
use Rattle.std.specs.Prelude.{ℕ, ◌≡◌, ◌<◌, ◌≤◌, ◌+◌, Option, Some, None, List, ◌++◌, length, slice_index_or}
use Rattle.type_hierarchy.specs.Table.{TypeTable, meet_of}
use Rattle.fs_model.specs.Claims.{Path, Claim, exists_at, same, below, at, Has}
use Rattle.fs_model.specs.Table.{Table, walk}
use Rattle.fs_model.specs.Sources.{Tells}
use Rattle.fs_graph.specs.GraphMap.{arc_to, reader_of}
use Rattle.fs_graph.specs.Facts.{path_of, claims_of}
use Rattle.fs_closing.specs.Rules.{facts_in}
use Rattle.forced_types.specs.declared.given.Given.{Given}
use Rattle.forced_types.specs.declared.nodes.Nodes.{Nodes}
use Rattle.forced_types.specs.declared.placed.PlacedGraph.{PlacedGraph}
use Rattle.forced_types.specs.Forced.{IsWithin, IsPathIn}
use Rattle.forced_types.specs.Inner.Sound.{Covers, most_of, size_of, entry_in, path_in}

abbrev pub table_in : Nodes → Table
table_in t = record { size = size_of t; live = λ n. (entry_in t n).up; arc = λ n f. arc_to (entry_in t n).arcs f; type_of = λ _. 0 }

abbrev pub walk_in : Nodes → ℕ → Path → Option ℕ
walk_in t n p = walk (table_in t) n p

-- each node was merged into a live one at once
pub record IsFlat (t : Nodes) : Type 0 where
  pub up_in : (n : ℕ) → n < size_of t → (entry_in t n).up < size_of t
  pub twice : (n : ℕ) → n < size_of t → (entry_in t (entry_in t n).up).up ≡ (entry_in t n).up
  pub arc_in : (n f m : ℕ) → n < size_of t → arc_to (entry_in t n).arcs f ≡ Some m → m < size_of t

-- the top type is covered, and with two types their common type; two without one are listed
pub record AreTypesClosed (types : TypeTable) (list : List ℕ) : Type 0 where
  pub top : Covers types list 0
  pub meets : (t u m : ℕ) → Covers types list t → Covers types list u → meet_of types t u ≡ Some m → Covers types list m
  pub apart : (t u : ℕ) → Covers types list t → Covers types list u → meet_of types t u ≡ None → Has t list × Has u list

-- a claim on paths from a node
abbrev pub SaysFrom : TypeTable → Nodes → ℕ → Claim → Type 0
SaysFrom types t n (exists_at p) = (m : ℕ) × (walk_in t n p ≡ Some m)
SaysFrom types t n (same p q) = (m : ℕ) × (walk_in t n p ≡ Some m) × (walk_in t n q ≡ Some m)
SaysFrom types t n (below p u) = (m : ℕ) × (walk_in t n p ≡ Some m) × Covers types (entry_in t m).types u

-- a claim holds at a node, as far as its paths have so many features at most
pub record HoldsAt (types : TypeTable) (t : Nodes) (n most : ℕ) (c : Claim) : Type 0 where
  pub fronts : (q r : Path) → IsPathIn (q ++ r) c → length q ≤ most → (m : ℕ) × (walk_in t n q ≡ Some m)
  pub claim : IsWithin most c → SaysFrom types t n c

pub record IsArcClosed (g : Given) (t : Nodes) (n f m : ℕ) : Type 0 where
  pub introduced : Covers g.system.now.types (entry_in t n).types (slice_index_or g.system.now.introducers f 0)
  pub near : length (path_in t (entry_in t m).up) ≤ length (path_in t n) + 1

-- what types say of a live node holds
pub record IsNodeClosed (g : Given) (t : Nodes) (n : ℕ) : Type 0 where
  pub types : AreTypesClosed g.system.now.types (entry_in t n).types
  pub arcs : (f m : ℕ) → arc_to (entry_in t n).arcs f ≡ Some m → IsArcClosed g t n f m
  pub facts : (u left : ℕ) (c : Claim) → Covers g.system.now.types (entry_in t n).types u → Has c (facts_in g.system.now.rules u) →
      length (path_in t n) + left ≡ most_of g → HoldsAt g.system.now.types t n left c

-- what a part tells holds
abbrev pub IsPartTold : Given → Nodes → PlacedGraph → Type 0
IsPartTold g t p = (c : Claim) → Tells (reader_of p.graph.now) c → HoldsAt g.system.now.types t 0 (most_of g) (at (path_of p.at.now) c)

pub record IsClosed (g : Given) (t : Nodes) : Type 0 where
  pub filled : 0 < size_of t
  pub flat : IsFlat t
  pub root : length (path_in t (entry_in t 0).up) ≡ 0
  pub nodes : (n : ℕ) → n < size_of t → (entry_in t n).up ≡ n → IsNodeClosed g t n
  pub short : (n : ℕ) → n < size_of t → length (path_in t n) ≤ most_of g
  pub told : (p : PlacedGraph) → Has p g.parts.now → IsPartTold g t p
  pub facts : (c : Claim) → Has c (claims_of g.facts.now) → HoldsAt g.system.now.types t 0 (most_of g) c

-- what the nodes say of paths of so many features at most
abbrev pub Says : TypeTable → Nodes → ℕ → Claim → Type 0
Says types t most c = IsWithin most c × SaysFrom types t 0 c

-- all features of a path lead from a node as far as so many
abbrev pub HasFront : Nodes → ℕ → ℕ → Path → Type 0
HasFront t n left path = (q r : Path) → q ++ r ≡ path → length q ≤ left → (m : ℕ) × (walk_in t n q ≡ Some m)

-- the facts of a rule hold at a node
abbrev pub AreHeld : TypeTable → Nodes → ℕ → ℕ → List Claim → Type 0
AreHeld types t n left claims = (c : Claim) → Has c claims → HoldsAt types t n left c
