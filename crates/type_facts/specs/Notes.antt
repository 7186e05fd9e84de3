-- Lists that are noted for names.
use Rattle.std.specs.Prelude.{List, [], String, Vec, string_bytes}
use Rattle.std.specs.Global.{Global}
use Rattle.std.specs.Map.{lookup}
use Rattle.std.specs.Option.{option_map_or}
use Rattle.std.specs.Str.{bytes_eq}
use Rattle.type_hierarchy.specs.Decls.{Name}

-- the list that is noted for a name
abbrev pub noted : {T : Type 0} → List (String Global × Vec T Global) → Name → List T
noted entries n = option_map_or (λ v. v.items) (lookup (λ k. bytes_eq n (string_bytes k)) entries) []
