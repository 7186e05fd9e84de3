use Rattle.std.proofs.Common.{◌≡◌, map, drop}
use Rattle.std.specs.List.{find}
use Rattle.grammar_files.specs.Placings.{placed_of}
use Rattle.grammar_types.specs.SettleViews.{defines_type_named}
use Rattle.grammar_types.proofs.declarations.definition_of.Given as goal

abbrev pub invariant-loop-placed : goal.invariant-loop-placed
invariant-loop-placed l =
    find (defines_type_named l.name) (map placed_of (drop l.placed-index l.statements)) ≡ find (defines_type_named l.name) (map placed_of l.statements)
