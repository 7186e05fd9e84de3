use Rattle.std.proofs.Common.{◌≡◌, map, take}
use Rattle.morph_analysis.proofs.analysis.steps_by_word.Given as goal

abbrev pub invariant-loop-step : goal.invariant-loop-step
invariant-loop-step l = map (λ r. r.now) l.sorted.items ≡ take l.step-index l.steps
