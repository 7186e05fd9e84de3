-- Names of types that a grammar doesn't have.
use Rattle.std.specs.Prelude.{◌≡◌, ◌&&◌, not, if◌then◌else◌, Bool, List, Option, Some, None}
use Rattle.std.specs.List.{list_any}
use Rattle.std.specs.Option.{option_or}
use Rattle.std.specs.Str.{bytes_eq}
use Rattle.type_hierarchy.specs.Decls.{Name}
use Rattle.type_hierarchy.specs.Table.{TypeTable}
use Rattle.body_facts.specs.Writing.{ListNames}
use Rattle.body_facts.specs.Mentions.{Mention, mention, unknown_in}
use Rattle.grammar_files.specs.Placings.{PlacedTree}
use Rattle.constraint_expand.specs.Statements.{name_of, place_of, body_of, defines_type, adds_to_type}

-- some statement defines a type of this name
abbrev pub is_defined : List PlacedTree → Name → Bool
is_defined ps name = list_any (λ p. defines_type p && bytes_eq name (name_of p)) ps

-- an addendum names its type, which must be defined
abbrev pub own_unknown : List PlacedTree → PlacedTree → Option Mention
own_unknown ps p = if (adds_to_type p && not (is_defined ps (name_of p))) then Some (mention (place_of p.statement) (name_of p)) else None

-- the first name of a statement that no type has: an addendum's own name comes before those of its body
abbrev pub unknown_of : TypeTable → ListNames → List PlacedTree → PlacedTree → Option Mention
unknown_of types n ps p = option_or (own_unknown ps p) (unknown_in types n (body_of p))

abbrev pub NamesUnknown : TypeTable → ListNames → List PlacedTree → PlacedTree → Type 0
NamesUnknown types n ps p = (m : Mention) × (unknown_of types n ps p ≡ Some m)
