-- What the parts of settling see of statements.
use Rattle.std.specs.Prelude.{ℕ, ◌≡◌, ◌<◌, ◌≤◌, ◌++◌, ◌&&◌, Bool, true, false, List, [], ◌∷◌, if◌then◌else◌, length, find, Option, None, Vec, String}
use Rattle.std.specs.Global.{Global}
use Rattle.std.specs.Map.{lookup}
use Rattle.std.specs.Option.{option_map_or}
use Rattle.std.specs.Str.{bytes_eq}
use Rattle.std.specs.String.{string_bytes}
use Rattle.tdl_reader.specs.declared.Status.{Status}
use Rattle.grammar_files.specs.Placings.{PlacedTree}
use Rattle.grammar_files.specs.Statements.{defines_type}
pub use Rattle.grammar_files.specs.Names.{with_each}
use Rattle.type_hierarchy.specs.Decls.{Declared, texts}
use Rattle.grammar_files.specs.BodyStrings.{strings_of_body}
use Rattle.grammar_settings.specs.Forms.{Name}
use Rattle.grammar_types.specs.Typings.{is_heeded, IsRepeatUnder, IsRepeat, body_written, name_written, names_under, has_name, adds_to, top_names, defines_under}

-- the strings of a statement's body, if it is heeded
abbrev pub strings_written : PlacedTree → List Name
strings_written p = if is_heeded p.status then strings_of_body (body_written p.statement) else []

-- a definition under a status whose name is one of these
abbrev pub is_again : Status → PlacedTree → List Name → Bool
is_again s p names = defines_under s p && has_name names (name_written p.statement)

-- whether the name of a statement is new, and then the names with it
abbrev pub IsEntered : Status → PlacedTree → List Name → List Name → Bool → Type 0
IsEntered s p old new true = (is_again s p old ≡ false) × (new ≡ old ++ names_under s (p ∷ []))
IsEntered s p old new false = is_again s p old ≡ true

-- the first repeat under a status before a bound, or the bound
pub record IsEarliest (s : Status) (ps : List PlacedTree) (bound k : ℕ) : Type 0 where
  pub within : k ≤ bound
  pub is_repeat : k < bound → IsRepeatUnder s ps k
  pub none_before : (j : ℕ) → j < k → IsRepeatUnder s ps j → ⊥

-- the first repeat of all, or the length
pub record IsEarliestOfAll (ps : List PlacedTree) (k : ℕ) : Type 0 where
  pub within : k ≤ length ps
  pub is_repeat : k < length ps → IsRepeat ps k
  pub none_before : (j : ℕ) → j < k → IsRepeat ps j → ⊥

-- the parents that are noted for a name
abbrev pub parents_noted : List (String Global × Vec (String Global) Global) → Name → List Name
parents_noted entries n = option_map_or (λ v. texts v.items) (lookup (λ k. bytes_eq n (string_bytes k)) entries) []

-- what a statement adds to the parents of the type of a name
abbrev pub parents_by : PlacedTree → Name → List Name
parents_by p n = if adds_to n p then top_names (body_written p.statement) else []

-- a type's declaration, where `added` tells the parents that addenda add to a name
abbrev pub declared_with : (Name → List Name) → PlacedTree → Declared
declared_with added p =
    record { name = name_written p.statement; parents = top_names (body_written p.statement) ++ added (name_written p.statement) }

abbrev pub defines_type_named : Name → PlacedTree → Bool
defines_type_named n p = defines_type p && bytes_eq n (name_written p.statement)

-- the declaration that a statement gives, if it defines a type
abbrev pub decl_by : (Name → List Name) → PlacedTree → List Declared
decl_by added p = if defines_type p then declared_with added p ∷ [] else []
