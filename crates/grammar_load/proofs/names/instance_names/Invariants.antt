use Rattle.std.proofs.Common.{◌≡◌, map, take}
use Rattle.grammar_files.specs.Placings.{placed_of}
use Rattle.grammar_files.specs.Statements.{name_of}
use Rattle.grammar_files.specs.Statements.{instances_in}
use Rattle.grammar_load.specs.Spellings.{names_in}
use Rattle.grammar_load.proofs.names.instance_names.Given as goal

abbrev pub invariant-loop-placed : goal.invariant-loop-placed
invariant-loop-placed l = names_in l.out ≡ map name_of (instances_in (map placed_of (take l.placed-index l.statements)))
