-- The rules that shapes are of, and daughters of them.
use Rattle.std.specs.Prelude.{ℕ, ◌≡◌, ◌<◌, ◌≤◌, ◌++◌, ◌-◌, Bool, Some, List, All, length, map, slice_get}
use Rattle.chart_model.specs.declared.covers.Tuple.{Tuple}
use Rattle.chart_model.specs.Tuples.{shapes_of, IsTuple}
use Rattle.fs_model.specs.Claims.{Path}
use Rattle.fs_graph.specs.GraphMap.{GraphMap, reader_of}
use Rattle.fs_closing.specs.Rules.{Grammar, system_of}
use Rattle.fs_unify.specs.Owing.{IsWellFormedBut}
use Rattle.fs_trim.specs.Cutting.{owed_of}
use Rattle.tree_model.specs.Structures.{Structure}
use Rattle.tree_model.specs.Mothers.{RuleSystem, arity_at}
use Rattle.tree_model.specs.Laws.{rules_applies}
use Rattle.grammar_shapes.specs.declared.phrase_rule.PhraseRule.{PhraseRule}
use Rattle.grammar_shapes.specs.declared.shapes.GrammarShapes.{GrammarShapes}
use Rattle.sieve.specs.Sketches.{TypeAt, sketch_of, below_place, sketches_meet}
use Rattle.grammar_shapes.specs.Ruled.{places_of, system_in}
use Rattle.grammar_shapes.specs.Shaped.{Shape, graph_of, meaning_in, BelongsIn}

-- the type system
abbrev pub grammar_of : GrammarShapes → Grammar
grammar_of s = s.rules.grammar

-- a full structure's graph was well-formed until it lost what these rules' mothers lose
abbrev pub OwesBy : Grammar → RuleSystem → GraphMap → Type 0
OwesBy g rules graph = IsWellFormedBut (system_of g) (reader_of graph) (owed_of rules.daughters)

-- the rules as they were given
abbrev pub list_of : GrammarShapes → List PhraseRule
list_of s = s.rules.rules

-- the rules over the type system, what a mother loses, and what an abstract structure lacks
abbrev pub rules_of : GrammarShapes → RuleSystem
rules_of s = system_in s.rules.grammar s.rules.rules s.rules.daughters s.rules.restrictors

-- the paths at which types are compared
abbrev pub checks_of : GrammarShapes → List Path
checks_of s = s.rules.checks

-- what a shape stands for, and which shapes belong to the rules
abbrev pub meaning_of : GrammarShapes → Shape → Structure
meaning_of s shape = meaning_in s.rules.grammar shape

abbrev pub Belongs : GrammarShapes → Shape → Type 0
Belongs s shape = BelongsIn s.rules.grammar s.rules.restrictors s.rules.checks shape

abbrev pub arity_of : GrammarShapes → ℕ → ℕ
arity_of s rule = arity_at (rules_of s) (slice_get (rules_of s).rules rule)

-- daughters that a rule may take, whatever they cover: at least one, and at most as many as it has
pub record AreDaughters {C : Type 0} (s : GrammarShapes) (rule : ℕ) (t : Tuple Shape C) : Type 0 where
  pub rule_is : rule < length (rules_of s).rules
  pub tuple : IsTuple t
  pub some : 0 < t.count
  pub short : t.count ≤ arity_of s rule
  pub shapes : All (Belongs s) (shapes_of t)

-- the structures that daughters stand for
abbrev pub meanings_of : {C : Type 0} → GrammarShapes → Tuple Shape C → List Structure
meanings_of s t = map (meaning_of s) (shapes_of t)

-- the rule applies to no tuple that begins with these daughters
abbrev pub AppliesToNone : GrammarShapes → ℕ → List Structure → Type 0
AppliesToNone s rule front = (rest : List Structure) → rules_applies (rules_of s) rule (front ++ rest) → ⊥

-- the sketches of the rule at the place of the last daughter, and of the last daughter, at the paths at which types are compared
abbrev pub AreSketches : {C : Type 0} → GrammarShapes → ℕ → Tuple Shape C → List TypeAt → List TypeAt → Type 0
AreSketches s rule t a b = (r : PhraseRule) (place : Path) (last : Shape) → slice_get (list_of s) rule ≡ Some r → slice_get (places_of r) (t.count - 1) ≡ Some place →
    slice_get (shapes_of t) (t.count - 1) ≡ Some last → (a ≡ sketch_of (below_place place (reader_of r.structure.now)) (checks_of s)) × (b ≡ sketch_of (reader_of (graph_of last)) (checks_of s))

-- whether no type of the last daughter clashes with the rule's at its place, at the paths at which types are compared
abbrev pub IsMet : {C : Type 0} → GrammarShapes → ℕ → Tuple Shape C → Bool → Type 0
IsMet s rule t met = (r : PhraseRule) (place : Path) (last : Shape) → slice_get (list_of s) rule ≡ Some r → slice_get (places_of r) (t.count - 1) ≡ Some place →
    slice_get (shapes_of t) (t.count - 1) ≡ Some last →
    met ≡ sketches_meet (grammar_of s).types (sketch_of (below_place place (reader_of r.structure.now)) (checks_of s)) (sketch_of (reader_of (graph_of last)) (checks_of s))
