use Rattle.std.proofs.Common.{◌≡◌, map, take}
use Rattle.tdl_reader.specs.Views as written
use Rattle.spelling_rules.specs.Views.{group_of}
use Rattle.grammar_load.specs.Spellings.{group_written}
use Rattle.grammar_load.proofs.written.groups_written.Given as goal

abbrev pub invariant-loop-group : goal.invariant-loop-group
invariant-loop-group l = map group_of l.out.items ≡ map group_written (map written.group_in (take l.group-index l.groups))
