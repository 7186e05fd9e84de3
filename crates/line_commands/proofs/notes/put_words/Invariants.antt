use Rattle.std.proofs.Common.{◌≡◌, ◌++◌, map, take}
use Rattle.std.specs.List.{flat_map}
use Rattle.morph_analysis.specs.LatticeViews.{step_of}
use Rattle.lexical_items.specs.Seen.{step_seen}
use Rattle.line_commands.specs.Notes.{word_text}
use Rattle.line_commands.proofs.notes.put_words.Given as goal

abbrev pub invariant-loop-step : goal.invariant-loop-step
invariant-loop-step l = l.into.items ≡ l.initial.into.items ++ flat_map word_text (map (λ s. step_seen (step_of s)) (take l.step-index l.steps))
