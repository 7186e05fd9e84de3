use Rattle.std.proofs.Common.{◌≡◌, ◌++◌, map, drop}
use Rattle.grammar_settings.specs.Forms.{path_of}
use Rattle.grammar_settings.specs.Kept.{words_in}
use Rattle.grammar_settings.specs.SettingsViews.{names_in}
use Rattle.grammar_settings.proofs.build.paths.Given as goal

abbrev pub invariant-loop-word : goal.invariant-loop-word
invariant-loop-word l = map names_in l.out.items ++ map path_of (words_in (drop l.word-index l.words)) ≡ map path_of (words_in l.words)
