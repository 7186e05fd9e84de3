use Rattle.std.proofs.Common.{◌≡◌, map, Some}
use Rattle.type_hierarchy.specs.Named.{type_named}
use Rattle.grammar_files.specs.Placings.{placed_of}
use Rattle.constraint_expand.specs.Statements.{defines_type, name_of}
use Rattle.constraint_expand.specs.Found.{HasNoneBefore}
use Rattle.constraint_expand.proofs.splits.definition_of.Given as goal

abbrev pub invariant-loop-i : goal.invariant-loop-i
invariant-loop-i l = HasNoneBefore defines_type (map placed_of l.statements) (λ p. type_named l.types (name_of p) ≡ Some l.t.0) l.i
