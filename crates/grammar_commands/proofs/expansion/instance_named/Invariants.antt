use Rattle.std.proofs.Common.{◌≡◌, drop}
use Rattle.std.specs.List.{position_from}
use Rattle.grammar_commands.specs.Expansions.{is_called, instance_named}
use Rattle.grammar_commands.proofs.InstanceLemmas.{all_of}
use Rattle.grammar_commands.proofs.expansion.instance_named.Given as goal

abbrev pub invariant-loop-place : goal.invariant-loop-place
invariant-loop-place l = instance_named (all_of l.instances l.names) l.name l.status ≡ position_from (is_called l.name l.status) l.place (drop l.place (all_of l.instances l.names))
