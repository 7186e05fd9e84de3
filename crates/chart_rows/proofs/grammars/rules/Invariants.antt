use Rattle.std.proofs.Common.{All, ◌≤◌, length}
use Rattle.chart_model.specs.Tables.{IsSized}
use Rattle.chart_rows.proofs.grammars.rules.Given as goal

abbrev pub invariant-loop-word : goal.invariant-loop-word
invariant-loop-word l = All IsSized l.rules.items × (length l.rules.items ≤ 100)
