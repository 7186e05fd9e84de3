use Rattle.std.proofs.Common.{◌≡◌, map, take}
use Rattle.grammar_settings.specs.SettingsViews.{sort_of}
use Rattle.mrs_places.specs.Paths.{sort_line_of}
use Rattle.mrs_places.specs.Settled.{sort_said}
use Rattle.mrs_places.proofs.names.sorts_of.Given as goal

abbrev pub invariant-loop-line : goal.invariant-loop-line
invariant-loop-line l = map sort_line_of l.sorts.items ≡ map (λ s. sort_said l.types (sort_of s)) (take l.line-index l.lines.items)
