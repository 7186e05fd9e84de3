use Rattle.std.proofs.Common.{◌≡◌, map, drop}
use Rattle.std.specs.Option.{option_map}
use Rattle.tdl_reader.specs.GroupScan.{latest, set_named}
use Rattle.tdl_reader.specs.Views.{set_of}
use Rattle.tdl_reader.specs.Texts.{set_at}
use Rattle.tdl_reader.proofs.groups.set_named.Given as goal

abbrev pub invariant-loop-set : goal.invariant-loop-set
invariant-loop-set l = latest (option_map set_at l.found) l.name (map set_of (drop l.set-index l.sets)) ≡ set_named (map set_of l.sets) l.name
