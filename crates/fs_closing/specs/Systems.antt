-- What a type system stands for.
use Rattle.std.specs.Prelude.{ℕ, ◌<◌, ◌^◌, List, map, length}
use Rattle.type_hierarchy.specs.declared.types.Ty.{Ty}
use Rattle.type_hierarchy.specs.Table.{TypeTable, count_of}
use Rattle.fs_graph.specs.Facts.{claims_of}
use Rattle.fs_closing.specs.declared.facts.TypeFacts.{TypeFacts}
use Rattle.fs_closing.specs.Rules.{Rule, Grammar, IsGrammar}
use Rattle.fs_closing.specs.declared.constraint.Constraint.{Constraint}
use Rattle.fs_closing.specs.Inner.Known.{AreKnown}
use Rattle.fs_closing.specs.Inner.RuleRows.{HaveRows}

abbrev pub rule_of : TypeFacts → Rule
rule_of c = record { ty = c.ty.0; claims = claims_of c.facts.items }

abbrev pub rules_of : List TypeFacts → List Rule
rules_of constraints = map rule_of constraints

abbrev pub grammar_of : TypeTable → List Ty → List TypeFacts → ℕ → Grammar
grammar_of types introducers constraints path_limit =
    record { types = types; introducers = map (λ t. t.0) introducers; rules = rules_of constraints; path_limit = path_limit }

-- no rule is out of range, each type has the row of the rules above it, and constraints are known
pub record IsSystemInside (g : Grammar) (rows : List (List ℕ)) (row_of : List ℕ) (constraints : List Constraint) (starts : List ℕ) : Type 0 where
  pub grammar : IsGrammar g
  pub few : length g.rules < 2 ^ 32
  pub above : HaveRows g.types g.rules rows row_of (count_of g.types)
  pub known : AreKnown g constraints starts
