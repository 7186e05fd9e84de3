-- What a node owes at or below a type, as a graph that may enter there.
use Rattle.std.specs.Prelude.{ℕ, ◌≡◌, ◌<◌, ◌+◌, ◌⊎◌, Bool, true, Option, Some, None, List, [], length, map, slice_index_or}
use Rattle.type_hierarchy.specs.Table.{count_of, is_below}
use Rattle.fs_model.specs.Claims.{Claim, Has}
use Rattle.fs_model.specs.Closure.{Closure}
use Rattle.fs_model.specs.Sources.{Tells, Told}
use Rattle.fs_model.specs.Table.{NodeClaim, is_under, from, Seen}
use Rattle.fs_graph.specs.declared.graph.GraphArc.{GraphArc}
use Rattle.fs_graph.specs.GraphMap.{GraphMap, type_at, arcs_at, table_of, reader_of}
use Rattle.fs_closing.specs.declared.tasks.Bound.{Bound}
use Rattle.fs_closing.specs.Constraints.{type_source}
use Rattle.fs_closing.specs.NodeSteps.{IsGraphIn}
use Rattle.fs_closing.specs.Rules.{Grammar, no_rule, facts_in, system_of}
use Rattle.fs_unify.specs.declared.debts.Debt.{Debt}

-- bounds of nodes that begin at a number
abbrev pub bound_claims : ℕ → List Bound → List NodeClaim
bound_claims offset bounds = map (λ b. is_under (offset + b.node) [] b.ty) bounds

-- Bounds of a graph's first nodes: each node is at or below the introducers of its arcs, or has a bound that puts it there, and
-- there is no other bound.
pub record HaveBounds (g : Grammar) (graph : GraphMap) (count : ℕ) (bounds : List Bound) : Type 0 where
  pub introduces : (k : ℕ) (a : GraphArc) → k < count → Has a (arcs_at graph k) →
      Has (record { node = k; ty = (system_of g).introducer a.feat.0 }) bounds ⊎ (is_below g.types (type_at graph k) ((system_of g).introducer a.feat.0) ≡ true)
  pub nodes_in : (b : Bound) → Has b bounds → b.node < count
  pub types_in : (b : Bound) → Has b bounds → b.ty < count_of g.types
  pub introduced : (b : Bound) → Has b bounds → (a : GraphArc) × Has a (arcs_at graph b.node) × (b.ty ≡ (system_of g).introducer a.feat.0)

-- A graph that may enter at any node at or below a type, whose root is to be its root: it says nothing that doesn't follow from
-- the type, no fact that its own types force is wanting, and with its bounds no introducer is.
pub record IsDebt (g : Grammar) (ty : ℕ) (debt : Debt) : Type 0 where
  pub graph_in : IsGraphIn (count_of g.types) (length g.introducers) debt.graph
  pub said : (c : Claim) → Tells (reader_of debt.graph) c → Closure (system_of g) (Told (type_source ty)) c
  pub bounds : HaveBounds g debt.graph (length debt.graph.types) debt.bounds.items
  pub constrains : (k x : ℕ) (c : Claim) → k < length debt.graph.types → is_below g.types (type_at debt.graph k) x ≡ true →
      Has c (facts_in g.rules x) → Seen (system_of g) (table_of debt.graph) (from k c)

-- and it has those facts of all types at or above the type that are owed
pub record Pays (g : Grammar) (owed : Claim → Bool) (ty : ℕ) (debt : Debt) : Type 0 where
  pub is : IsDebt g ty debt
  pub pays : (x : ℕ) (c : Claim) → is_below g.types ty x ≡ true → Has c (facts_in g.rules x) → owed c ≡ true →
      Seen (system_of g) (table_of debt.graph) (from 0 c)

abbrev pub debt_at : List (Option Debt) → ℕ → Option Debt
debt_at debts j = slice_index_or debts j None

-- what the first rules' types owe, as far as it is known
pub record HaveDebts (g : Grammar) (owed : Claim → Bool) (count : ℕ) (debts : List (Option Debt)) : Type 0 where
  pub each : length debts ≡ count
  pub pays : (j : ℕ) (d : Debt) → j < count → debt_at debts j ≡ Some d → Pays g owed (slice_index_or g.rules j no_rule).ty d

-- what a rule says is said by another one: by its facts, where it is this one, or by what its type owes
abbrev pub IsPaidBy : Grammar → List (Option Debt) → ℕ → ℕ → Type 0
IsPaidBy g debts i j =
    ((i ≡ j) × (debt_at debts i ≡ None)) ⊎
    ((d : Debt) × (debt_at debts i ≡ Some d) × (is_below g.types (slice_index_or g.rules i no_rule).ty (slice_index_or g.rules j no_rule).ty ≡ true))
