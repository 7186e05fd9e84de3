use Rattle.std.proofs.Common.{◌≡◌, ◌||◌, map, drop, string_bytes}
use Rattle.grammar_settings.specs.Forms.{Name, is_among}
use Rattle.transfer_commands.specs.Inner.{has_name}
use Rattle.transfer_commands.proofs.skipping.set_of.Given as goal

abbrev pub invariant-loop-name : goal.invariant-loop-name
invariant-loop-name l = (n : Name) → (has_name l.set.keys n || is_among (map string_bytes (drop l.name-index l.names)) n) ≡ is_among (map string_bytes l.names) n
