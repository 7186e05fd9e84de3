use Rattle.std.proofs.Common.{◌≡◌, drop, option_map, None}
use Rattle.grammar_settings.specs.Kept.{entries_in, words_at}
use Rattle.grammar_settings.specs.SettingsFiles.{last_values, entries_of}
use Rattle.grammar_settings.proofs.build.given.Given as goal

abbrev pub invariant-loop-entry : goal.invariant-loop-entry
invariant-loop-entry l =
    last_values (option_map words_at l.last) (entries_of l.name (entries_in (drop l.entry-index l.entries)))
    ≡ last_values None (entries_of l.name (entries_in l.entries))
