use Rattle.std.proofs.Common.{◌≡◌, ◌++◌, map, drop}
use Rattle.grammar_settings.specs.SettingsViews.{names_in}
use Rattle.grammar_settings.proofs.build.defaults.Given as goal

abbrev pub invariant-loop-name : goal.invariant-loop-name
invariant-loop-name l = names_in l.out ++ map (λ n. n.now) (drop l.name-index l.names) ≡ map (λ n. n.now) l.names
