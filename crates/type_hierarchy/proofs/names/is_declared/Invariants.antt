use Rattle.std.proofs.Common.{◌≡◌, drop}
use Rattle.std.specs.List.{list_any}
use Rattle.std.specs.Str.{bytes_eq}
use Rattle.std.specs.String.{string_bytes}
use Rattle.type_hierarchy.proofs.names.is_declared.Given as goal

abbrev pub invariant-loop-decl : goal.invariant-loop-decl
invariant-loop-decl l =
    list_any (λ d. bytes_eq l.name (string_bytes d.name)) (drop l.decl-index l.decls) ≡ list_any (λ d. bytes_eq l.name (string_bytes d.name)) l.decls
