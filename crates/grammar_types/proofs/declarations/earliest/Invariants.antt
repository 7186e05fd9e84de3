use Rattle.std.proofs.Common.{map}
use Rattle.grammar_files.specs.Placings.{placed_of}
use Rattle.type_hierarchy.specs.Decls.{texts}
use Rattle.grammar_types.proofs.SettleRepeats.{Met}
use Rattle.grammar_types.proofs.declarations.earliest.Given as goal

abbrev pub invariant-loop-i : goal.invariant-loop-i
invariant-loop-i l = Met l.status (map placed_of l.statements) l.i (texts l.names.keys)
