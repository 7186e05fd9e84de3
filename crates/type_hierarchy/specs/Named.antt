-- Types by their names.
use Rattle.std.specs.Prelude.{ℕ, ◌≡◌, Option, List, take, position}
use Rattle.std.specs.Str.{bytes_eq}
use Rattle.std.specs.Map.{lookup}
use Rattle.std.specs.Global.{Global}
use Rattle.std.specs.Prelude.{String}
use Rattle.std.specs.String.{string_bytes}
use Rattle.type_hierarchy.specs.Decls.{Name}
use Rattle.type_hierarchy.specs.Table.{TypeTable, completed_count}

-- the completed type that has a name: strings aren't among these
abbrev pub type_named : TypeTable → Name → Option ℕ
type_named t n = position (bytes_eq n) (take (completed_count t) t.names)

-- the number that a map has for a name
abbrev pub noted : List (String Global × ℕ) → Name → Option ℕ
noted places n = lookup (λ k. bytes_eq n (string_bytes k)) places

-- a map from names to their places in a list
abbrev pub ArePlaces : List (String Global × ℕ) → List Name → Type 0
ArePlaces places names = (n : Name) → noted places n ≡ position (bytes_eq n) names
