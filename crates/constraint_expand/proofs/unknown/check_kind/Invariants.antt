use Rattle.std.proofs.Common.{map}
use Rattle.body_facts.specs.Writing.{list_names}
use Rattle.grammar_files.specs.Placings.{placed_of}
use Rattle.constraint_expand.specs.Kinds.{picks}
use Rattle.constraint_expand.specs.Unknowns.{NamesUnknown}
use Rattle.constraint_expand.specs.Found.{HasNoneBefore}
use Rattle.constraint_expand.proofs.unknown.check_kind.Given as goal

abbrev pub invariant-loop-i : goal.invariant-loop-i
invariant-loop-i l =
    HasNoneBefore (picks l.kind) (map placed_of l.statements) (NamesUnknown l.types (list_names l.names) (map placed_of l.statements)) l.i
