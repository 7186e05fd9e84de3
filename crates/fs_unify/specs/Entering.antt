-- Graphs that enter a table.
use Rattle.std.specs.Prelude.{ℕ, ◌≡◌, ◌<◌, ◌≤◌, ◌+◌, ◌⊎◌, true, Some, List, [], ◌++◌, length, map}
use Rattle.fs_model.specs.Claims.{Path, Claim, at, System, Has}
use Rattle.fs_model.specs.Sources.{Reader, Part, Source, Told, Tells, IsGraphOf}
use Rattle.fs_model.specs.Steps.{InTable}
use Rattle.fs_model.specs.Table.{Table, IsTable, NodeClaim, is_under, from, Seen, Follows, IsSound}
pub use Rattle.fs_closing.specs.NodeSteps.{EntersTable, IsGraphIn}
use Rattle.fs_closing.specs.Rules.{Grammar, facts_in, system_of}
use Rattle.type_hierarchy.specs.Table.{is_below}
use Rattle.fs_graph.specs.declared.graph.GraphArc.{GraphArc}
use Rattle.fs_graph.specs.GraphMap.{GraphMap, type_at, arcs_at, table_of}

-- the introducers of a node's arcs
abbrev pub introducer_claims : System → ℕ → List GraphArc → List NodeClaim
introducer_claims s n arcs = map (λ a. is_under n [] (s.introducer a.feat.0)) arcs

-- what the types and arcs of a graph's first nodes force becomes work, where it isn't seen in the graph
pub record Owes (s : System) (offset : ℕ) (g : GraphMap) (count : ℕ) (work work' : List NodeClaim) : Type 0 where
  pub facts : (k x : ℕ) (c : Claim) → k < count → s.is_below (type_at g k) x ≡ true → Has c (s.facts_of x) →
      Has (from (offset + k) c) work' ⊎ Seen s (table_of g) (from k c)
  pub introduces : (k : ℕ) (a : GraphArc) → k < count → Has a (arcs_at g k) →
      Has (is_under (offset + k) [] (s.introducer a.feat.0)) work' ⊎ (s.is_below (type_at g k) (s.introducer a.feat.0) ≡ true)
  pub rest : (c : NodeClaim) → Has c work → Has c work'
  pub only : (c : NodeClaim) → Has c work' →
      ((k : ℕ) × (x : ℕ) × (d : Claim) × (k < count) × (s.is_below (type_at g k) x ≡ true) × Has d (s.facts_of x) × (c ≡ from (offset + k) d)) ⊎
      ((k : ℕ) × (a : GraphArc) × (k < count) × Has a (arcs_at g k) × (c ≡ is_under (offset + k) [] (s.introducer a.feat.0))) ⊎ Has c work

-- A graph is well-formed where it is the structure of the closure of what it tells: closing it adds nothing
-- (Copestake 2002: well-formed typed feature structures).
abbrev pub IsWellFormed : System → Reader → Type 0
IsWellFormed s r = IsGraphOf s (Tells r) r

-- what all nodes of a graph force becomes work, where it isn't seen in the graph
abbrev pub IsOwed : System → ℕ → GraphMap → List NodeClaim → List NodeClaim → Type 0
IsOwed s offset g work work' = Owes s offset g (length g.types) work work'

-- graphs stand in a table beside one another, and a table with its work has all that they claim and force
pub record Entered (s : System) (source : Source) (ps : List Part) (t : Table) (work : List NodeClaim) (w : ℕ → Path) : Type 0 where
  pub table : IsTable t
  pub filled : 0 < t.size
  pub live_is : (k : ℕ) → t.live k ≡ k
  pub in_table : (c : NodeClaim) → Has c work → InTable t.size c
  pub sound : IsSound s (Told source) t work w
  pub starts : (p : Part) (c : Claim) → Has p ps → Tells p.reader c → Follows s t work (from 0 (at p.place c))
  pub introduces : (n f m : ℕ) → n < t.size → t.arc n f ≡ Some m → Follows s t work (is_under n [] (s.introducer f))
  pub constrains : (n u : ℕ) (c : Claim) → n < t.size → s.is_below (t.type_of n) u ≡ true → Has c (s.facts_of u) → Follows s t work (from n c)

-- What stands in a table with its work stands in another one too, whatever graphs entered before and whatever other work there
-- is. Its nodes keep their types.
pub record Carries (s : System) (t : Table) (work : List NodeClaim) (t' : Table) (work' : List NodeClaim) : Type 0 where
  pub more : t.size ≤ t'.size
  pub type_old : (n : ℕ) → n < t.size → t'.type_of n ≡ t.type_of n
  pub follows : (c : NodeClaim) → Follows s t work c → Follows s t' work' c
  pub entered : (extra : List NodeClaim) (source : Source) (ps : List Part) (w : ℕ → Path) → Entered s source ps t (extra ++ work) w →
      (w' : ℕ → Path) × Entered s source ps t' (extra ++ work') w'

-- a graph enters a table, and what its nodes force that isn't seen in it becomes work, or enters with other graphs
pub record EntersOwing (s : System) (g : GraphMap) (t : Table) (work : List NodeClaim) (t' : Table) (work' : List NodeClaim) : Type 0 where
  pub alone : Table
  pub forced : List NodeClaim
  pub enters : EntersTable g t alone
  pub owed : IsOwed s t.size g work forced
  pub carries : Carries s alone forced t' work'

-- what the types of a graph's first nodes force follows in a table, where the nodes begin at a number, or is seen in the graph
abbrev pub ArePaid : Grammar → GraphMap → ℕ → ℕ → Table → List NodeClaim → Type 0
ArePaid g graph offset count t work =
    (k x : ℕ) (c : Claim) → k < count → is_below g.types (type_at graph k) x ≡ true → Has c (facts_in g.rules x) →
    Follows (system_of g) t work (from (offset + k) c) ⊎ Seen (system_of g) (table_of graph) (from k c)
