use Rattle.std.proofs.Common.{◌≡◌, map, drop, slice_get}
use Rattle.grammar_files.specs.Placings.{placed_of}
use Rattle.grammar_types.specs.Typings.{type_definitions}
use Rattle.grammar_types.proofs.declarations.definition_at.Given as goal

abbrev pub invariant-loop-placed : goal.invariant-loop-placed
invariant-loop-placed l =
    slice_get (type_definitions (map placed_of (drop l.placed-index l.statements))) l.left ≡ slice_get (type_definitions (map placed_of l.statements)) l.place
