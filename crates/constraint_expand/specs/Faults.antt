-- The faults of expansion. Each is the first of its kind, and there is none of an earlier kind.
use Rattle.std.specs.Prelude.{ℕ, ◌≡◌, ◌<◌, ◌≤◌, ◌⊎◌, true, List, [], length, slice_index_or, Some, None, if◌then◌else◌, string_bytes}
use Rattle.fs_model.specs.Claims.{Claim, Has}
use Rattle.type_hierarchy.specs.Decls.{Name}
use Rattle.type_hierarchy.specs.Named.{type_named}
use Rattle.type_hierarchy.specs.Table.{TypeTable}
use Rattle.fs_unify.specs.Rules.{Grammar, system_of}
use Rattle.fs_unify.specs.Given.{facts_source}
use Rattle.fs_unify.specs.Limits.{IsUnifiedWithin}
use Rattle.body_facts.specs.Writing.{ListNames}
use Rattle.body_facts.specs.BracketUses.{Used, used}
use Rattle.body_facts.specs.Mentions.{mention}
use Rattle.body_facts.specs.Numbers.{type_number}
use Rattle.grammar_files.specs.declared.expand_fault.ExpandFault.{ExpandFault}
use Rattle.grammar_files.specs.declared.expand_fault.ExpandFault.TheVariants.{UnknownName, NoIntro, Intro, NoStructure, NoMemory}
use Rattle.grammar_files.specs.Placings.{PlacedTree}
use Rattle.constraint_expand.specs.Statements.{name_of, defines_type, is_define, statement_at, IsFirst, IsFirstAmong, IsNowhere}
use Rattle.constraint_expand.specs.Features.{uses_in, features_used, writers_of}
use Rattle.constraint_expand.specs.Introducers.{IsIntroducer, AreFirstTwo}
use Rattle.constraint_expand.specs.Systems.{Settled, IsSystemOf, constraint_claims, instance_claims, words_of}
use Rattle.constraint_expand.specs.Unknowns.{unknown_of, NamesUnknown}

-- the first statement that names an unknown type, and the name
pub record IsUnknownName (types : TypeTable) (n : ListNames) (ps : List PlacedTree) (name : Name) (at k : ℕ) : Type 0 where
  pub first : IsFirst ps (NamesUnknown types n ps) k
  pub mentioned : unknown_of types n ps (statement_at ps k) ≡ Some (mention at name)

-- no type writes the feature at its own node
abbrev pub IsUnwritten : TypeTable → ListNames → List PlacedTree → Used → Type 0
IsUnwritten types n ps u = writers_of types n ps u.feature ≡ []

-- a statement uses such a feature
abbrev pub UsesUnwritten : TypeTable → ListNames → List PlacedTree → PlacedTree → Type 0
UsesUnwritten types n ps p = (u : Used) × Has u (uses_in n p) × IsUnwritten types n ps u

abbrev pub no_use : Used
no_use = used 0 true []

abbrev pub use_at : List Used → ℕ → Used
use_at uses i = slice_index_or uses i no_use

-- the first of the uses of which P holds: the one with the least place, and among those with one place the first written
pub record IsFirstUse (uses : List Used) (P : Used → Type 0) (i : ℕ) : Type 0 where
  pub within : i < length uses
  pub holds : P (use_at uses i)
  pub least : (j : ℕ) → j < length uses → P (use_at uses j) → ((use_at uses i).at < (use_at uses j).at) ⊎ (((use_at uses i).at ≡ (use_at uses j).at) × (i ≤ j))

-- the feature and the place of that use
pub record NamesFirstUse (uses : List Used) (P : Used → Type 0) (feature : Name) (at : ℕ) : Type 0 where
  pub place : ℕ
  pub first : IsFirstUse uses P place
  pub feature_is : feature ≡ (use_at uses place).feature
  pub at_is : at ≡ (use_at uses place).at

-- the first statement that uses a feature that no type writes, and its first such use
pub record IsNoIntro (types : TypeTable) (n : ListNames) (ps : List PlacedTree) (feature : Name) (at k : ℕ) : Type 0 where
  pub first : IsFirst ps (UsesUnwritten types n ps) k
  pub first_use : NamesFirstUse (uses_in n (statement_at ps k)) (IsUnwritten types n ps) feature at

abbrev pub HasIntroducer : TypeTable → ListNames → List PlacedTree → Name → Type 0
HasIntroducer types n ps f = (t : ℕ) × IsIntroducer types (writers_of types n ps f) t

-- the name of a type by number
abbrev pub type_name : TypeTable → ℕ → Name
type_name types t = slice_index_or types.names t []

-- The first feature, by first writing, that has no introducer, with its first two most general writers by order of
-- definition; the fault stands at the definition of the second.
pub record IsIntro (types : TypeTable) (n : ListNames) (ps : List PlacedTree) (feature a b : Name) (k : ℕ) : Type 0 where
  pub place : ℕ
  pub within : place < length (features_used n ps)
  pub feature_is : feature ≡ slice_index_or (features_used n ps) place []
  pub split : HasIntroducer types n ps feature → ⊥
  pub before : (j : ℕ) → j < place → HasIntroducer types n ps (slice_index_or (features_used n ps) j [])
  pub first : ℕ
  pub second : ℕ
  pub two : AreFirstTwo types (writers_of types n ps feature) first second
  pub a_is : a ≡ type_name types first
  pub b_is : b ≡ type_name types second
  pub stands : IsFirstAmong defines_type ps (λ p. type_named types (name_of p) ≡ Some second) k

-- what the structure of a definition is the closure of
abbrev pub claims_of_definition : Grammar → Settled → List Name → PlacedTree → List Claim
claims_of_definition g s feats p =
    if defines_type p then constraint_claims (type_number g.types (name_of p)) else instance_claims (words_of g.types s.lists feats) p

-- a definition of a type or an instance whose closure is inconsistent, or has more paths than settings allow
abbrev pub HasNoStructure : Grammar → Settled → List Name → PlacedTree → Type 0
HasNoStructure g s feats p =
    (is_define p.statement ≡ true) × IsUnifiedWithin (system_of g) s.node_limit (facts_source (claims_of_definition g s feats p)) None

-- the first of these
pub record IsNoStructure (types : TypeTable) (s : Settled) (ps : List PlacedTree) (name : Name) (k : ℕ) : Type 0 where
  pub feats : List Name
  pub system : Grammar
  pub is_system : IsSystemOf types s ps feats system
  pub first : IsFirst ps (HasNoStructure system s feats) k
  pub name_is : name ≡ name_of (statement_at ps k)

-- no statement names an unknown type
abbrev pub AreKnown : TypeTable → Settled → List PlacedTree → Type 0
AreKnown types s ps = IsNowhere ps (NamesUnknown types s.lists ps)

-- each feature that is used has a type that writes it
abbrev pub AreWritten : TypeTable → Settled → List PlacedTree → Type 0
AreWritten types s ps = IsNowhere ps (UsesUnwritten types s.lists ps)

-- `statement` is the place of the statement at which a fault stands
abbrev pub IsFaultOf : TypeTable → Settled → List PlacedTree → ExpandFault → Type 0
IsFaultOf types s ps (UnknownName name at statement) = IsUnknownName types s.lists ps (string_bytes name) at statement
IsFaultOf types s ps (NoIntro feature at statement) =
    AreKnown types s ps × IsNoIntro types s.lists ps (string_bytes feature) at statement
IsFaultOf types s ps (Intro feature a b statement) =
    AreKnown types s ps × AreWritten types s ps
    × IsIntro types s.lists ps (string_bytes feature) (string_bytes a) (string_bytes b) statement
IsFaultOf types s ps (NoStructure name statement) =
    AreKnown types s ps × IsNoStructure types s ps (string_bytes name) statement
IsFaultOf types s ps NoMemory = Unit {0}
