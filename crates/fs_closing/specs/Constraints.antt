-- The graphs of types' constraints (Copestake 2002: constraints of types are closed, well-formed typed feature structures).
use Rattle.std.specs.Prelude.{ℕ, ◌≡◌, true, Some, [], ◌∷◌, length}
use Rattle.type_hierarchy.specs.Table.{count_of, is_below, meet_of}
use Rattle.fs_model.specs.Claims.{below}
use Rattle.fs_model.specs.Sources.{Source, Told, IsGraphOf}
use Rattle.fs_model.specs.Table.{Table}
use Rattle.fs_graph.specs.GraphMap.{GraphMap, reader_of}
use Rattle.fs_closing.specs.NodeSteps.{IsGraphIn}
use Rattle.fs_closing.specs.Rules.{Grammar, system_of}

-- that the root is at or below a type, and nothing else
abbrev pub type_source : ℕ → Source
type_source t = record { claims = below [] t ∷ []; parts = [] }

-- A graph is the structure of the closure of this one claim: it has what all types at or above the type say, and what follows
-- from it, and nothing more.
pub record IsConstraint (g : Grammar) (t : ℕ) (graph : GraphMap) : Type 0 where
  pub graph_in : IsGraphIn (count_of g.types) (length g.introducers) graph
  pub structure : IsGraphOf (system_of g) (Told (type_source t)) (reader_of graph)

-- put at or below a type, a node is at or below another one too
pub record IsUnderBy (g : Grammar) (t : Table) (n ty above : ℕ) : Type 0 where
  pub met : ℕ
  pub met_is : meet_of g.types (t.type_of n) ty ≡ Some met
  pub below : is_below g.types met above ≡ true
