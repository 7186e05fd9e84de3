-- What contracts see of counted shapes.
use Rattle.std.specs.Prelude.{Option, List}
use Rattle.chart_model.specs.declared.counts.Counts.{Counts}
use Rattle.grammar_shapes.specs.declared.shapes.GrammarShapes.{GrammarShapes}
use Rattle.generated_leaves.specs.declared.shapes.CountedShapes.{CountedShapes}

-- the rules, what covers stay within, and what each rule contributes
abbrev pub shapes_in : CountedShapes → GrammarShapes
shapes_in s = s.shapes.now

abbrev pub bound_in : CountedShapes → Counts
bound_in s = s.bound

abbrev pub own_in : CountedShapes → List (Option Counts)
own_in s = s.own.items
