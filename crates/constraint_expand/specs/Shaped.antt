-- What is known while structures are made.
use Rattle.std.specs.Prelude.{ℕ, ◌≡◌, ◌<◌, ◌++◌, true, List, [], ◌∷◌, filter, length, Option, Some, None, IfSome, option_map, string_bytes}
use Rattle.std.specs.List.{AllZip}
use Rattle.type_hierarchy.specs.Named.{type_named}
use Rattle.type_hierarchy.specs.Table.{TypeTable, count_of}
use Rattle.fs_model.specs.Claims.{Claim, Has}
use Rattle.fs_graph.specs.GraphMap.{GraphMap, reader_of}
use Rattle.fs_unify.specs.Rules.{Grammar, facts_in, system_of, IsClaimIn}
use Rattle.fs_unify.specs.Given.{facts_source}
use Rattle.fs_unify.specs.Limits.{IsUnifiedWithin}
use Rattle.fs_unify.specs.Placing.{IsAnswerIn}
use Rattle.body_facts.specs.Claimed.{WordTable}
use Rattle.grammar_files.specs.declared.expand_fault.ExpandFault.{ExpandFault}
use Rattle.grammar_files.specs.declared.expand_fault.ExpandFault.TheVariants.{NoStructure, NoMemory}
use Rattle.grammar_files.specs.Placings.{PlacedTree}
use Rattle.constraint_expand.specs.Statements.{name_of, statement_at, defines_type, defines_instance, instances_in, IsFirstAmong}
use Rattle.constraint_expand.specs.Conditions.{IsDefined}
use Rattle.constraint_expand.specs.Systems.{constraint_claims, instance_claims}
pub use Rattle.constraint_expand.specs.Books.{IsInstanceBy}
use Rattle.constraint_expand.specs.Books.{InstanceMap}

-- claims of a grammar's types and features
abbrev pub HaveClaimsIn : Grammar → List Claim → Type 0
HaveClaimsIn g claims = (c : Claim) → Has c claims → IsClaimIn (count_of g.types) (length g.introducers) c

-- what is answered for claims: the structure of their closure within a limit on paths, or none
pub record IsAnswerFor (g : Grammar) (limit : ℕ) (claims : List Claim) (o : Option GraphMap) : Type 0 where
  pub unified : IsUnifiedWithin (system_of g) limit (facts_source claims) (option_map reader_of o)
  pub answer : IfSome o (IsAnswerIn g)

-- the instances of statements, by a table of words
abbrev pub AreShaped : Grammar → WordTable → List PlacedTree → List InstanceMap → Type 0
AreShaped g w ps is = AllZip (IsInstanceBy g w) (instances_in ps) is

-- the instance of a statement goes last, if the statement defines one
abbrev pub AddsInstance : Grammar → WordTable → PlacedTree → List InstanceMap → List InstanceMap → Type 0
AddsInstance g w p old new = (more : List InstanceMap) × (new ≡ old ++ more) × AllZip (IsInstanceBy g w) (filter defines_instance (p ∷ [])) more

-- a type, and an instance, without structure within a limit on paths
abbrev pub HasNoConstraint : Grammar → ℕ → ℕ → Type 0
HasNoConstraint g limit t = IsUnifiedWithin (system_of g) limit (facts_source (constraint_claims t)) None

abbrev pub HasNoShape : Grammar → ℕ → WordTable → PlacedTree → Type 0
HasNoShape g limit w p = IsUnifiedWithin (system_of g) limit (facts_source (instance_claims w p)) None

-- the fault of the type of a number
abbrev pub IsFaultyType : TypeTable → List PlacedTree → ℕ → ExpandFault → Type 0
IsFaultyType types ps t (NoStructure name k) =
    (string_bytes name ≡ name_of (statement_at ps k)) × IsFirstAmong defines_type ps (λ p. type_named types (name_of p) ≡ Some t) k
IsFaultyType types ps t _ = ⊥

-- the fault of the first type without structure, by number
abbrev pub IsFaultyAmongTypes : Grammar → ℕ → List PlacedTree → ExpandFault → Type 0
IsFaultyAmongTypes g limit ps NoMemory = Unit {0}
IsFaultyAmongTypes g limit ps e =
    (t : ℕ) × HasNoConstraint g limit t × IsFaultyType g.types ps t e × ((u : ℕ) → u < t → HasNoConstraint g limit u → ⊥)

-- the fault of an instance without structure
abbrev pub IsFaultyHere : Grammar → ℕ → WordTable → PlacedTree → ℕ → ExpandFault → Type 0
IsFaultyHere g limit w p k (NoStructure name statement) =
    (statement ≡ k) × (defines_instance p ≡ true) × (string_bytes name ≡ name_of p) × HasNoShape g limit w p
IsFaultyHere g limit w p k NoMemory = Unit {0}
IsFaultyHere g limit w p k _ = ⊥

-- that of the first such instance
abbrev pub IsFaultyAmongInstances : Grammar → ℕ → WordTable → List PlacedTree → ExpandFault → Type 0
IsFaultyAmongInstances g limit w ps (NoStructure name k) =
    IsFirstAmong defines_instance ps (HasNoShape g limit w) k × (string_bytes name ≡ name_of (statement_at ps k))
IsFaultyAmongInstances g limit w ps NoMemory = Unit {0}
IsFaultyAmongInstances g limit w ps _ = ⊥

-- facts are those of types that are defined
abbrev pub AreFactsDefined : Grammar → List PlacedTree → Type 0
AreFactsDefined g ps = (u : ℕ) (c : Claim) → Has c (facts_in g.rules u) → IsDefined g.types ps u
