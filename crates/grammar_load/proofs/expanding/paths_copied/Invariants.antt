use Rattle.std.proofs.Common.{◌≡◌, ◌++◌, map, drop}
use Rattle.grammar_settings.specs.SettingsViews.{names_in}
use Rattle.grammar_load.proofs.expanding.paths_copied.Given as goal

abbrev pub invariant-loop-path : goal.invariant-loop-path
invariant-loop-path l = map names_in l.out.items ++ map names_in (drop l.path-index l.paths) ≡ map names_in l.paths
