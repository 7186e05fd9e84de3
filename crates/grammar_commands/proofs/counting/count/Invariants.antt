use Rattle.std.proofs.Common.{◌≡◌, ◌+◌, ◌≤◌, drop, map}
use Rattle.constraint_expand.specs.Books.{instance_of}
use Rattle.grammar_commands.specs.Checks.{count_of}
use Rattle.grammar_commands.proofs.counting.count.Given as goal

abbrev pub invariant-loop-instance : goal.invariant-loop-instance
invariant-loop-instance l = record {
  all : l.found + count_of l.status (map instance_of (drop l.instance-index l.instances)) ≡ count_of l.status (map instance_of l.instances);
  few : l.found ≤ l.instance-index;
}
