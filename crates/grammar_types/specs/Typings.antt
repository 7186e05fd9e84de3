-- The types of a grammar's statements, the strings beside them, and the first fault that they have (DELPH-IN TDL,
-- definitions of types; Copestake 2002, bounded completeness).
use Rattle.std.specs.Prelude.{ℕ, ◌≡◌, ◌<◌, ◌&&◌, Bool, true, false, List, [], ◌∷◌, ◌++◌, map, filter, find, flat_map, length, take, not, slice_get, slice_index_or, Option, Some, String, string_bytes}
use Rattle.std.specs.Global.{Global}
use Rattle.std.specs.List.{list_any}
use Rattle.std.specs.Str.{bytes_eq}
use Rattle.tdl_reader.specs.declared.Status.{Status}
use Rattle.tdl_reader.specs.Trees.{TermTree, of_name, of_text, of_coref, of_avm, of_list, of_diff, BodyTree, no_terms, and_term, StatementTree}
use Rattle.grammar_files.specs.Placings.{PlacedTree}
use Rattle.grammar_files.specs.BodyStrings.{strings_of_body}
pub use Rattle.grammar_files.specs.Names.{has_name}
pub use Rattle.grammar_files.specs.Statements.{is_status, is_heeded, place_of, is_define, is_addendum, name_written, body_written, type_definitions, adds_to, no_statement, statement_at}
use Rattle.type_hierarchy.specs.declared.decl.TypeFault.{TypeFault}
use Rattle.type_hierarchy.specs.declared.decl.TypeFault.TheVariants.{Duplicate, Unknown, Cycle, Reserved, TooMany, NoMemory}
use Rattle.type_hierarchy.specs.Decls.{Declared}
use Rattle.type_hierarchy.specs.Faults.{IsFirst, IsFaultOf, IsFaultless, most_types}
use Rattle.type_hierarchy.specs.Laws.{IsHierarchy}
use Rattle.type_hierarchy.specs.Table.{TypeTable, IsHierarchyOf}
use Rattle.glb_completion.specs.Completion.{IsCompletionOf, HasTooMany}
use Rattle.grammar_files.specs.declared.fault.Why.{Why}
use Rattle.grammar_files.specs.declared.fault.Why.TheVariants.{Typing, TooManyTypes}
use Rattle.grammar_files.specs.Faults.{FoundFault}
use Rattle.grammar_settings.specs.Forms.{Name}
use Rattle.grammar_files.specs.Walks.{WalkedTree, fault_at}

-- the names of types at the top of a body
abbrev pub top_name : TermTree → List Name
top_name (of_name name at) = name ∷ []
top_name _ = []

abbrev pub top_names : BodyTree → List Name
top_names no_terms = []
top_names (and_term t more) = top_name t ++ top_names more

-- a definition of a type, or of an instance of this status
abbrev pub defines_under : Status → PlacedTree → Bool
defines_under s p = is_define p.statement && is_status s p.status

abbrev pub definitions_under : Status → List PlacedTree → List PlacedTree
definitions_under s ps = filter (defines_under s) ps

abbrev pub names_under : Status → List PlacedTree → List Name
names_under s ps = map (λ p. name_written p.statement) (definitions_under s ps)

-- the parents that addenda add to the type of this name
abbrev pub parents_added : Name → List PlacedTree → List Name
parents_added name ps = flat_map (λ p. top_names (body_written p.statement)) (filter (adds_to name) ps)

-- A type's parents are the names of types at the top of its body, and then those of its addenda.
abbrev pub declared_in : List PlacedTree → PlacedTree → Declared
declared_in ps p =
    record { name = name_written p.statement; parents = top_names (body_written p.statement) ++ parents_added (name_written p.statement) ps }

-- the types that the statements define, in order of writing
abbrev pub decls_in : List PlacedTree → List Declared
decls_in ps = map (declared_in ps) (type_definitions ps)

-- each once, where it stands first
abbrev pub once : List Name → List Name
once [] = []
once (x ∷ xs) = x ∷ filter (λ y. not (bytes_eq x y)) (once xs)

-- the strings of all bodies that are heeded, each once, in order of writing
abbrev pub strings_in : List PlacedTree → List Name
strings_in ps = once (flat_map (λ p. strings_of_body (body_written p.statement)) (filter (λ p. is_heeded p.status) ps))

-- a definition under this status whose name an earlier one has
abbrev pub IsRepeatUnder : Status → List PlacedTree → ℕ → Type 0
IsRepeatUnder s ps k =
    (k < length ps) × (defines_under s (statement_at ps k) ≡ true)
    × (has_name (names_under s (take k ps)) (name_written (statement_at ps k).statement) ≡ true)

-- a type, or an instance that is heeded, whose name an earlier type, or instance of its status, has
abbrev pub IsRepeat : List PlacedTree → ℕ → Type 0
IsRepeat ps k = (s : Status) × (is_heeded s ≡ true) × IsRepeatUnder s ps k

abbrev pub HasNoRepeat : List PlacedTree → Type 0
HasNoRepeat ps = (k : ℕ) → IsRepeat ps k → ⊥

-- The statements define types without a fault, and this is their hierarchy, each set in rising order.
pub record IsWritten (w : WalkedTree) (h : TypeTable) : Type 0 where
  pub no_repeat : HasNoRepeat w.statements
  pub faultless : IsFaultless w.settings.top_type w.settings.string_type (decls_in w.statements)
  pub hierarchy : IsHierarchyOf w.settings.top_type w.settings.string_type (decls_in w.statements) h
  pub rising : IsHierarchy h

-- the completed types, with the strings beside them
abbrev pub AreTypesOf : WalkedTree → TypeTable → Type 0
AreTypesOf w t = (h : TypeTable) × IsWritten w h × IsCompletionOf h (strings_in w.statements) t

-- the first definition of a name
abbrev pub IsNamed : List PlacedTree → Name → PlacedTree → Type 0
IsNamed ps name p = find (λ d. bytes_eq name (name_written d.statement)) ps ≡ Some p

-- Among the definitions of types, a fault stands at the one that it names; that of too many at the 16,385th.
abbrev pub StandsAt : List PlacedTree → TypeFault → PlacedTree → Type 0
StandsAt ds (Duplicate name) p = ⊥
StandsAt ds (Unknown name parent) p = IsNamed ds (string_bytes name) p
StandsAt ds (Cycle name) p = IsNamed ds (string_bytes name) p
StandsAt ds (Reserved name) p = IsNamed ds (string_bytes name) p
StandsAt ds (TooMany count) p = slice_get ds most_types ≡ Some p
StandsAt ds NoMemory p = ⊥

-- the name of a file by its number
abbrev pub file_name : WalkedTree → ℕ → Name
file_name w file = slice_index_or w.files file []

-- a fault at the first token of a statement
abbrev pub fault_of : WalkedTree → PlacedTree → Why → FoundFault
fault_of w p why = fault_at (file_name w p.file) (place_of p.statement) why

-- The first fault: over all statements, the first name that is given a second time; then what is wrong with the types
-- that are defined; then that the completed types are too many.
pub data IsTypesFault (w : WalkedTree) : FoundFault → Type 0 where
  repeats : (k : ℕ) (name : String Global) → IsFirst (IsRepeat w.statements) k
      → string_bytes name ≡ name_written (statement_at w.statements k).statement
      → IsTypesFault w (fault_of w (statement_at w.statements k) (Typing (Duplicate name)))
  unsettled : (fault : TypeFault) (p : PlacedTree) → HasNoRepeat w.statements
      → IsFaultOf w.settings.top_type w.settings.string_type (decls_in w.statements) fault
      → StandsAt (type_definitions w.statements) fault p → IsTypesFault w (fault_of w p (Typing fault))
  too_many : (h : TypeTable) → IsWritten w h → HasTooMany h → IsTypesFault w (fault_at (file_name w 0) 0 TooManyTypes)

-- the same fault of types: names are compared by their bytes
abbrev pub IsSameTypeFault : TypeFault → TypeFault → Type 0
IsSameTypeFault (Duplicate a) (Duplicate b) = string_bytes a ≡ string_bytes b
IsSameTypeFault (Unknown a p) (Unknown b q) = (string_bytes a ≡ string_bytes b) × (string_bytes p ≡ string_bytes q)
IsSameTypeFault (Cycle a) (Cycle b) = string_bytes a ≡ string_bytes b
IsSameTypeFault (Reserved a) (Reserved b) = string_bytes a ≡ string_bytes b
IsSameTypeFault (TooMany m) (TooMany n) = m ≡ n
IsSameTypeFault NoMemory NoMemory = Unit {0}
IsSameTypeFault _ _ = ⊥

abbrev pub IsSameWhy : Why → Why → Type 0
IsSameWhy (Typing a) (Typing b) = IsSameTypeFault a b
IsSameWhy a b = a ≡ b

-- the same fault, up to where its names are stored
abbrev pub IsSameFault : FoundFault → FoundFault → Type 0
IsSameFault f g = (f.file ≡ g.file) × (f.at ≡ g.at) × IsSameWhy f.why g.why
