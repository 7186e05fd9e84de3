-- What is found in one statement, and among the statements of one kind.
use Rattle.std.specs.Prelude.{ℕ, ◌≡◌, ◌<◌, ◌&&◌, map, length, slice_index_or, Bool, true, if◌then◌else◌, List, [], ◌∷◌, Some, String, Vec, string_bytes}
use Rattle.std.specs.Global.{Global}
use Rattle.std.specs.List.{list_any, AllZip}
use Rattle.std.specs.Str.{bytes_eq}
use Rattle.type_hierarchy.specs.Decls.{Name}
use Rattle.type_hierarchy.specs.Named.{type_named}
use Rattle.type_hierarchy.specs.Table.{TypeTable}
use Rattle.type_hierarchy.specs.declared.types.Ty.{Ty}
use Rattle.body_facts.specs.Writing.{ListNames}
use Rattle.body_facts.specs.Mentions.{mention}
use Rattle.constraint_expand.specs.declared.kinds.Kind.{Kind}
use Rattle.grammar_files.specs.declared.expand_fault.ExpandFault.{ExpandFault}
use Rattle.grammar_files.specs.declared.expand_fault.ExpandFault.TheVariants.{UnknownName, NoIntro, Intro, NoStructure, NoMemory}
use Rattle.grammar_files.specs.Placings.{PlacedTree}
pub use Rattle.grammar_files.specs.Names.{has_name, with_each}
use Rattle.constraint_expand.specs.Statements.{name_of, speaks_of_type, defines_type, statement_at, IsFirstAmong}
use Rattle.constraint_expand.specs.Kinds.{picks}
use Rattle.constraint_expand.specs.Features.{uses_in, writings_in, writers_of, AreFeatures}
use Rattle.constraint_expand.specs.Systems.{Settled}
use Rattle.constraint_expand.specs.Unknowns.{unknown_of, NamesUnknown}
use Rattle.constraint_expand.specs.Faults.{type_name, NamesFirstUse, AreKnown, IsUnknownName, IsNoIntro, IsIntro, IsNoStructure, IsFaultOf}
use Rattle.type_facts.specs.Notes.{noted}
use Rattle.body_facts.specs.BracketUses.{Used}
use Rattle.fs_model.specs.Claims.{Has}
use Rattle.constraint_expand.specs.Introducers.{numbers_of, IsIntroducer, AreFirstTwo}

-- a set of names has a name
abbrev pub has_text_key : List (String Global) → Name → Bool
has_text_key keys n = list_any (λ k. bytes_eq n (string_bytes k)) keys

-- a statement defines a type of this name
abbrev pub defines_named : Name → PlacedTree → Bool
defines_named n p = defines_type p && bytes_eq n (name_of p)

-- none of the statements before a place that a test picks has P
abbrev pub HasNoneBefore : (PlacedTree → Bool) → List PlacedTree → (PlacedTree → Type 0) → ℕ → Type 0
HasNoneBefore test ps P i = (j : ℕ) → j < i → test (statement_at ps j) ≡ true → P (statement_at ps j) → ⊥

-- the fault of a statement that names an unknown type
abbrev pub IsUnknownHere : TypeTable → ListNames → List PlacedTree → Kind → PlacedTree → ℕ → ExpandFault → Type 0
IsUnknownHere types n ps kind p k (UnknownName name at statement) =
    (statement ≡ k) × (picks kind p ≡ true) × (unknown_of types n ps p ≡ Some (mention at (string_bytes name)))
IsUnknownHere types n ps kind p k NoMemory = Unit {0}
IsUnknownHere types n ps kind p k _ = ⊥

-- the first such statement of a kind
abbrev pub IsUnknownAmong : TypeTable → ListNames → List PlacedTree → Kind → ExpandFault → Type 0
IsUnknownAmong types n ps kind (UnknownName name at k) =
    IsFirstAmong (picks kind) ps (NamesUnknown types n ps) k × (unknown_of types n ps (statement_at ps k) ≡ Some (mention at (string_bytes name)))
IsUnknownAmong types n ps kind NoMemory = Unit {0}
IsUnknownAmong types n ps kind _ = ⊥

-- a fault of one kind, as `IsFaultOf` has it
abbrev pub IsUnknownFault : TypeTable → Settled → List PlacedTree → ExpandFault → Type 0
IsUnknownFault types s ps (UnknownName name at k) = IsUnknownName types s.lists ps (string_bytes name) at k
IsUnknownFault types s ps NoMemory = Unit {0}
IsUnknownFault types s ps _ = ⊥

abbrev pub IsUnwrittenFault : TypeTable → Settled → List PlacedTree → ExpandFault → Type 0
IsUnwrittenFault types s ps (NoIntro feature at k) = IsNoIntro types s.lists ps (string_bytes feature) at k
IsUnwrittenFault types s ps NoMemory = Unit {0}
IsUnwrittenFault types s ps _ = ⊥

abbrev pub IsSplitFault : TypeTable → Settled → List PlacedTree → ExpandFault → Type 0
IsSplitFault types s ps (Intro feature a b k) = IsIntro types s.lists ps (string_bytes feature) (string_bytes a) (string_bytes b) k
IsSplitFault types s ps NoMemory = Unit {0}
IsSplitFault types s ps _ = ⊥

abbrev pub IsStructureFault : TypeTable → Settled → List PlacedTree → ExpandFault → Type 0
IsStructureFault types s ps (NoStructure name k) = IsNoStructure types s ps (string_bytes name) k
IsStructureFault types s ps NoMemory = Unit {0}
IsStructureFault types s ps _ = ⊥

-- a fault of names or of features
abbrev pub IsEarlyFault : TypeTable → Settled → List PlacedTree → ExpandFault → Type 0
IsEarlyFault types s ps (NoStructure name k) = ⊥
IsEarlyFault types s ps fault = IsFaultOf types s ps fault

-- the numbers of the writers that are noted for a feature
abbrev pub numbers_noted : List (String Global × Vec Ty Global) → Name → List ℕ
numbers_noted entries f = numbers_of (noted entries f)

-- no writer is noted for the feature of a use
abbrev pub HasNoWriter : List (String Global × Vec Ty Global) → Used → Type 0
HasNoWriter entries u = numbers_noted entries u.feature ≡ []

abbrev pub UsesWithout : List (String Global × Vec Ty Global) → ListNames → PlacedTree → Type 0
UsesWithout entries n p = (u : Used) × Has u (uses_in n p) × HasNoWriter entries u

-- the first use of a feature without writers, in one statement
abbrev pub IsWithoutHere : List (String Global × Vec Ty Global) → ListNames → Kind → PlacedTree → ℕ → ExpandFault → Type 0
IsWithoutHere entries n kind p k (NoIntro feature at statement) =
    (statement ≡ k) × (picks kind p ≡ true) × NamesFirstUse (uses_in n p) (HasNoWriter entries) (string_bytes feature) at
IsWithoutHere entries n kind p k NoMemory = Unit {0}
IsWithoutHere entries n kind p k _ = ⊥

-- that of the first such statement of a kind
abbrev pub IsWithoutAmong : List (String Global × Vec Ty Global) → ListNames → List PlacedTree → Kind → ExpandFault → Type 0
IsWithoutAmong entries n ps kind (NoIntro feature at k) =
    IsFirstAmong (picks kind) ps (UsesWithout entries n) k
    × NamesFirstUse (uses_in n (statement_at ps k)) (HasNoWriter entries) (string_bytes feature) at
IsWithoutAmong entries n ps kind NoMemory = Unit {0}
IsWithoutAmong entries n ps kind _ = ⊥

-- what a statement adds to the writers of a feature, if it is of types
abbrev pub writings_by : TypeTable → ListNames → Name → PlacedTree → List ℕ
writings_by types n f p = if speaks_of_type p then writings_in types n f p else []

-- the features that a statement uses, if it is of a kind
abbrev pub features_under : ListNames → Kind → PlacedTree → List Name
features_under n kind p = if picks kind p then map (λ u. u.feature) (uses_in n p) else []

-- writers that are types
pub record AreNoted (types : ℕ) (writers : List ℕ) : Type 0 where
  pub some : 0 < length writers
  pub within : (t : ℕ) → Has t writers → t < types

-- one of the writers is above all others
abbrev pub HasNoted : TypeTable → List ℕ → Type 0
HasNoted types writers = (t : ℕ) × IsIntroducer types writers t

-- the fault of a feature with these two most general writers
abbrev pub IsSplitOf : TypeTable → List PlacedTree → Name → ℕ → ℕ → ExpandFault → Type 0
IsSplitOf types ps f first second (Intro feature a b k) =
    (string_bytes feature ≡ f) × (string_bytes a ≡ type_name types first) × (string_bytes b ≡ type_name types second)
    × IsFirstAmong defines_type ps (λ p. type_named types (name_of p) ≡ Some second) k
IsSplitOf types ps f first second _ = ⊥

-- the fault of a feature with these writers
abbrev pub IsSplitHere : TypeTable → List PlacedTree → List ℕ → Name → ExpandFault → Type 0
IsSplitHere types ps writers f NoMemory = Unit {0}
IsSplitHere types ps writers f e =
    (first : ℕ) × (second : ℕ) × (HasNoted types writers → ⊥) × AreFirstTwo types writers first second × IsSplitOf types ps f first second e

-- the fault of the first of the features that has one
abbrev pub IsSplitAmong : TypeTable → List PlacedTree → (Name → List ℕ) → List Name → ExpandFault → Type 0
IsSplitAmong types ps writers features NoMemory = Unit {0}
IsSplitAmong types ps writers features e =
    (i : ℕ) × (i < length features) × IsSplitHere types ps (writers (slice_index_or features i [])) (slice_index_or features i []) e
    × ((j : ℕ) → j < i → HasNoted types (writers (slice_index_or features j [])))

-- What is known once names, features and introducers were looked at.
pub record IsIntroduced (types : TypeTable) (s : Settled) (ps : List PlacedTree) (feats : List Name) (found : List ℕ) : Type 0 where
  pub known : AreKnown types s ps
  pub features : AreFeatures s.lists ps feats
  pub introducers : AllZip (λ f t. IsIntroducer types (writers_of types s.lists ps f) t) feats found
