-- The numbers of types and strings by their names.
use Rattle.std.specs.Prelude.{ℕ, ◌+◌, List, drop, unwrap_or}
use Rattle.type_hierarchy.specs.Decls.{Name, number_of}
use Rattle.type_hierarchy.specs.Named.{type_named}
use Rattle.type_hierarchy.specs.Table.{TypeTable, completed_count}

-- the number of the completed type of a name, and 0 for a name that has none
abbrev pub type_number : TypeTable → Name → ℕ
type_number types name = unwrap_or (type_named types name) 0

-- strings come after the completed types
abbrev pub strings_of : TypeTable → List Name
strings_of types = drop (completed_count types) types.names

-- the number of a string
abbrev pub text_number : TypeTable → Name → ℕ
text_number types text = completed_count types + number_of (strings_of types) text
