use Rattle.std.proofs.Common.{◌≡◌, take, map}
use Rattle.grammar_commands.specs.TypeReports.{type_lines}
use Rattle.grammar_commands.proofs.types.type_lines.Given as goal

abbrev pub invariant-loop-number : goal.invariant-loop-number
invariant-loop-number l = map (λ v. v.items) l.lines.items ≡ take l.number (type_lines l.table)
