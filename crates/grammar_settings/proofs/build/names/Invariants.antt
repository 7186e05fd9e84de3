use Rattle.std.proofs.Common.{◌≡◌, ◌++◌, map, drop}
use Rattle.grammar_settings.specs.Forms.{name_of}
use Rattle.grammar_settings.specs.Kept.{words_in}
use Rattle.grammar_settings.specs.SettingsViews.{names_in}
use Rattle.grammar_settings.proofs.build.names.Given as goal

abbrev pub invariant-loop-word : goal.invariant-loop-word
invariant-loop-word l = names_in l.out ++ map name_of (words_in (drop l.word-index l.words)) ≡ map name_of (words_in l.words)
