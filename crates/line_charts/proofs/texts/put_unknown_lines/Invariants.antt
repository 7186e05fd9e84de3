use Rattle.std.proofs.Common.{◌≡◌, ◌++◌, map, drop}
use Rattle.morph_analysis.specs.LatticeViews.{step_of}
use Rattle.lexical_items.specs.Seen.{step_seen}
use Rattle.line_charts.specs.Texts.{unknown_line}
use Rattle.line_charts.proofs.texts.put_unknown_lines.Given as goal

abbrev pub invariant-loop-step : goal.invariant-loop-step
invariant-loop-step l =
    map (λ v. v.items) l.lines.items ++ map unknown_line (map (λ s. step_seen (step_of s)) (drop l.step-index l.unknown))
    ≡ map (λ v. v.items) l.initial.lines.items ++ map unknown_line (map (λ s. step_seen (step_of s)) l.unknown)
