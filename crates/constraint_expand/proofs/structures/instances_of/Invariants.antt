use Rattle.std.proofs.Common.{map, take, filter}
use Rattle.std.specs.List.{AllZip}
use Rattle.body_facts.specs.WordTables.{table_of}
use Rattle.grammar_files.specs.Placings.{placed_of}
use Rattle.constraint_expand.specs.Statements.{defines_instance}
use Rattle.constraint_expand.specs.Books.{instance_of}
use Rattle.constraint_expand.specs.Shaped.{IsInstanceBy, HasNoShape}
use Rattle.constraint_expand.specs.Found.{HasNoneBefore}
use Rattle.constraint_expand.proofs.structures.instances_of.Given as goal

abbrev pub invariant-loop-i : goal.invariant-loop-i
invariant-loop-i l =
    record {
      shaped : AllZip (IsInstanceBy l.system (table_of l.words)) (filter defines_instance (take l.i (map placed_of l.statements))) (map instance_of l.instances.items);
      none : HasNoneBefore defines_instance (map placed_of l.statements) (HasNoShape l.system l.limit (table_of l.words)) l.i;
    }
