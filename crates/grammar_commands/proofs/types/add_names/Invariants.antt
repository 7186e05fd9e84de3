use Rattle.std.proofs.Common.{◌≡◌, ◌++◌, map, take}
use Rattle.grammar_commands.specs.TypeReports.{name_at}
use Rattle.command_files.specs.FaultTexts.{spaced}
use Rattle.grammar_commands.proofs.types.add_names.Given as goal

abbrev pub invariant-loop-t : goal.invariant-loop-t
invariant-loop-t l = l.line.items ≡ l.fn.line.items ++ spaced (map (λ t. name_at l.table t.0) (take l.t-index l.types))
