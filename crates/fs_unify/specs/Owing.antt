-- What a graph owes that is well-formed but for some facts.
use Rattle.std.specs.Prelude.{ℕ, ◌≡◌, ◌<◌, ◌||◌, Bool, true, false, if◌then◌else◌, Option, Some, List, [], ◌∷◌, ◌++◌, length, slice_index_or}
use Rattle.std.specs.List.{list_any}
use Rattle.type_hierarchy.specs.Table.{count_of}
use Rattle.fs_model.specs.Claims.{Path, Claim, exists_at, same, below, at, System, Has}
use Rattle.fs_model.specs.Sources.{Reader}
use Rattle.fs_graph.specs.GraphMap.{GraphMap, reader_of}
use Rattle.fs_closing.specs.Rules.{Grammar, no_rule, rules_above, system_of}
use Rattle.fs_unify.specs.Entering.{IsWellFormed}
use Rattle.fs_unify.specs.declared.debts.Debt.{Debt}
use Rattle.fs_unify.specs.Debts.{HaveDebts, IsPaidBy}
pub use Rattle.fs_drawing.specs.Cutting.{is_one_of, begins_with, is_cut_off}

-- a fact holds in a graph
abbrev pub Holds : System → Reader → Claim → Type 0
Holds s r (exists_at p) = (n : ℕ) × (r.node_at p ≡ Some n)
Holds s r (same p q) = (n : ℕ) × (r.node_at p ≡ Some n) × (r.node_at q ≡ Some n)
Holds s r (below p t) = (n : ℕ) × (r.node_at p ≡ Some n) × (s.is_below (r.type_of n) t ≡ true)

-- facts of types that a graph may owe: at its root, and at the paths further on
pub record OwedFacts : Type 0 where
  pub at_root : Claim → Bool
  pub further : Claim → Bool

abbrev pub is_owed : OwedFacts → Path → Claim → Bool
is_owed owed [] c = owed.at_root c
is_owed owed (f ∷ p) c = owed.further c

-- A graph is well-formed but for what it owes where at each of its paths all facts of the types at or above its type hold that
-- aren't owed there, and this type is at or below the introducer of each feature there (Copestake 2002: well-formed typed
-- feature structures).
pub record IsWellFormedBut (s : System) (r : Reader) (owed : OwedFacts) : Type 0 where
  pub introduced : (p : Path) (f n m : ℕ) → r.node_at p ≡ Some n → r.node_at (p ++ f ∷ []) ≡ Some m → s.is_below (r.type_of n) (s.introducer f) ≡ true
  pub constrained : (p : Path) (n u : ℕ) (c : Claim) → r.node_at p ≡ Some n → s.is_below (r.type_of n) u ≡ true → Has c (s.facts_of u) →
      is_owed owed p c ≡ false → Holds s r (at p c)

-- a fact speaks of a path that is cut off
abbrev pub speaks_of : List ℕ → List ℕ → Claim → Bool
speaks_of at_root anywhere (exists_at p) = is_cut_off at_root anywhere p
speaks_of at_root anywhere (same p q) = is_cut_off at_root anywhere p || is_cut_off at_root anywhere q
speaks_of at_root anywhere (below p t) = is_cut_off at_root anywhere p

-- what a graph owes where features were cut off, at the root or anywhere: the facts that speak of them
abbrev pub owed_by : List ℕ → List ℕ → OwedFacts
owed_by at_root anywhere = record { at_root = speaks_of at_root anywhere; further = speaks_of [] anywhere }

-- for each type, places of rules at or above it, whose facts hold with all that a graph owes at a node of the type: at its root,
-- and at its other nodes. Beside them, for each rule what its type owes, as far as it is known.
pub record OwedRules : Type 0 where
  pub at_root : List (List ℕ)
  pub further : List (List ℕ)
  pub root_debts : List (Option Debt)
  pub further_debts : List (Option Debt)

abbrev pub row_at : OwedRules → Bool → ℕ → List ℕ
row_at rules is_root t = slice_index_or (if is_root then rules.at_root else rules.further) t []

abbrev pub debts_at : OwedRules → Bool → List (Option Debt)
debts_at rules is_root = if is_root then rules.root_debts else rules.further_debts

-- a row of rules at or above a type says all that the rules there say which have one of these facts
pub record IsOwing (g : Grammar) (owed : Claim → Bool) (debts : List (Option Debt)) (t : ℕ) (row : List ℕ) : Type 0 where
  pub above : (j : ℕ) → Has j row → Has j (rules_above g.types g.rules t)
  pub paid : (j : ℕ) → Has j (rules_above g.types g.rules t) → list_any owed (slice_index_or g.rules j no_rule).claims ≡ true →
      (i : ℕ) × Has i row × IsPaidBy g debts i j

-- the first types have such rows
pub record HaveOwing (g : Grammar) (owed : Claim → Bool) (debts : List (Option Debt)) (count : ℕ) (rows : List (List ℕ)) : Type 0 where
  pub each : length rows ≡ count
  pub row_is : (t : ℕ) → t < count → IsOwing g owed debts t (slice_index_or rows t [])

-- the rules that have a fact which is owed
pub record ListsOwed (g : Grammar) (owed : OwedFacts) (rules : OwedRules) : Type 0 where
  pub at_root : HaveOwing g owed.at_root rules.root_debts (count_of g.types) rules.at_root
  pub further : HaveOwing g owed.further rules.further_debts (count_of g.types) rules.further
  pub root_debts : HaveDebts g owed.at_root (length g.rules) rules.root_debts
  pub further_debts : HaveDebts g owed.further (length g.rules) rules.further_debts

-- what a graph owes of what its types and features force: all of it, nothing, or the facts of some rules
pub data Owing : Type 0 where
  owes_all : Owing
  owes_nothing : Owing
  owes_rules : OwedRules → Owing

-- a graph is well-formed but for facts that these rules have
pub record OwesRules (g : Grammar) (graph : GraphMap) (rules : OwedRules) : Type 0 where
  pub facts : OwedFacts
  pub lists : ListsOwed g facts rules
  pub well_formed : IsWellFormedBut (system_of g) (reader_of graph) facts

-- a graph owes no more than is said
abbrev pub OwesOnly : Grammar → GraphMap → Owing → Type 0
OwesOnly g graph owes_all = Unit {0}
OwesOnly g graph owes_nothing = IsWellFormed (system_of g) (reader_of graph)
OwesOnly g graph (owes_rules rules) = OwesRules g graph rules
