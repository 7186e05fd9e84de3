use Rattle.std.proofs.Common.{◌≡◌, ◌≤◌, length, map, filter, take}
use Rattle.grammar_files.specs.Placings.{placed_of}
use Rattle.grammar_files.specs.Statements.{defines_instance}
use Rattle.grammar_load.proofs.misshapen.instance_at.Given as goal

abbrev pub invariant-loop-i : goal.invariant-loop-i
invariant-loop-i l = (l.seen ≡ length (filter defines_instance (take l.i (map placed_of l.statements)))) × (l.seen ≤ l.place)
