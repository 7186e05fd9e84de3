use Rattle.std.proofs.Common.{◌≡◌, ◌++◌, map, drop, string_bytes}
use Rattle.line_charts.specs.Texts.{class_lines}
use Rattle.line_charts.specs.Views.{class_of}
use Rattle.line_charts.proofs.texts.put_class_lines.Given as goal

abbrev pub invariant-loop-place : goal.invariant-loop-place
invariant-loop-place l =
    map (λ v. v.items) l.lines.items ++ class_lines l.types (map string_bytes l.names) l.nodes l.place (map class_of (drop l.place l.classes))
    ≡ map (λ v. v.items) l.initial.lines.items ++ class_lines l.types (map string_bytes l.names) l.nodes 0 (map class_of l.classes)
