use Rattle.std.proofs.Common.{◌≡◌, ◌++◌, map, drop, string_bytes}
use Rattle.std.specs.Prelude.{codes}
use Rattle.mrs_lines.specs.Lines.{path_text}
use Rattle.mrs_lines.proofs.line.line_of_no_mrs.Given as goal

abbrev pub invariant-loop-name : goal.invariant-loop-name
invariant-loop-name l = l.line.items ++ path_text (map string_bytes (drop l.name-index l.path)) ≡ codes "  no mrs at " ++ path_text (map string_bytes l.path)
