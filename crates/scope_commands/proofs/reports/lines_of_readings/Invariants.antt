use Rattle.std.proofs.Common.{◌≡◌, ◌++◌, map, drop}
use Rattle.scope_model.specs.Answers.{plugged_of, reading_line}
use Rattle.scope_commands.specs.Reports.{readings_lines}
use Rattle.scope_commands.proofs.reports.lines_of_readings.Given as goal

abbrev pub invariant-loop-reading : goal.invariant-loop-reading
invariant-loop-reading l =
    map (λ v. v.items) l.lines.items ++ map reading_line (map plugged_of (drop l.reading-index l.readings)) ≡ readings_lines l.number (map plugged_of l.readings)
