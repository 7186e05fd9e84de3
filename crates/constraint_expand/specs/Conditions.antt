-- What expansion asks of the types that it is given.
use Rattle.std.specs.Prelude.{ℕ, ◌≡◌, ◌<◌, ◌||◌, ◌⊎◌, true, Some, List, length}
use Rattle.fs_model.specs.Claims.{Has}
use Rattle.type_hierarchy.specs.Decls.{Name}
use Rattle.type_hierarchy.specs.Named.{type_named}
use Rattle.type_hierarchy.specs.Table.{TypeTable, completed_count, is_below}
use Rattle.body_facts.specs.Numbers.{strings_of}
use Rattle.grammar_files.specs.Placings.{PlacedTree}
use Rattle.constraint_expand.specs.Statements.{name_of, body_of, statement_at, defines_type, speaks_of_type, defines_instance}
use Rattle.grammar_files.specs.BodyStrings.{strings_of_body}

-- a statement defines the type of this number
abbrev pub IsDefined : TypeTable → List PlacedTree → ℕ → Type 0
IsDefined types ps t =
    (k : ℕ) × (k < length ps) × (defines_type (statement_at ps k) ≡ true) × (type_named types (name_of (statement_at ps k)) ≡ Some t)

-- a type that is defined, and has a lesser number, is at or below this one
abbrev pub HasLesserBelow : TypeTable → List PlacedTree → ℕ → Type 0
HasLesserBelow types ps t = (u : ℕ) × IsDefined types ps u × (u < t) × (is_below types u t ≡ true)

-- no type that is defined is at or above this one
abbrev pub HasNoneAbove : TypeTable → List PlacedTree → ℕ → Type 0
HasNoneAbove types ps t = (u : ℕ) → IsDefined types ps u → is_below types t u ≡ true → ⊥

-- Each type that is defined is a completed type. These have their numbers in order of definition, and the top type,
-- which is number 0, isn't among them. Each string of a body that is heeded is one of the strings beside the types.
pub record AreTypesFor (types : TypeTable) (ps : List PlacedTree) : Type 0 where
  pub top_is_there : 0 < completed_count types
  pub named : (k : ℕ) → k < length ps → defines_type (statement_at ps k) ≡ true →
      (t : ℕ) × (type_named types (name_of (statement_at ps k)) ≡ Some t) × (0 < t)
  pub rising : (j k t u : ℕ) → j < k → k < length ps → defines_type (statement_at ps j) ≡ true → defines_type (statement_at ps k) ≡ true →
      type_named types (name_of (statement_at ps j)) ≡ Some t → type_named types (name_of (statement_at ps k)) ≡ Some u → t < u
  -- the other types were added above types that are defined, or are the top type or the string type, of which nothing is written
  pub covered : (t : ℕ) → t < completed_count types → IsDefined types ps t ⊎ (HasLesserBelow types ps t ⊎ HasNoneAbove types ps t)
  pub strings : (k : ℕ) (text : Name) → k < length ps → (speaks_of_type (statement_at ps k) || defines_instance (statement_at ps k)) ≡ true →
      Has text (strings_of_body (body_of (statement_at ps k))) → Has text (strings_of types)
