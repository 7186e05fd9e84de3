use Rattle.std.proofs.Common.{◌≡◌, ◌++◌, map, drop, string_bytes}
use Rattle.grammar_settings.specs.SettingsViews.{names_in}
use Rattle.grammar_load.proofs.expanding.copied.Given as goal

abbrev pub invariant-loop-name : goal.invariant-loop-name
invariant-loop-name l = names_in l.out ++ map string_bytes (drop l.name-index l.names) ≡ map string_bytes l.names
