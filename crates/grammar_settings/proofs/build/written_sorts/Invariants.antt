use Rattle.std.proofs.Common.{◌≡◌, ◌++◌, map, drop, codes}
use Rattle.grammar_settings.specs.Kept.{entries_in}
use Rattle.grammar_settings.specs.Settled.{sort_in}
use Rattle.grammar_settings.specs.SettingsFiles.{entries_of}
use Rattle.grammar_settings.specs.SettingsViews.{sort_of}
use Rattle.grammar_settings.proofs.build.written_sorts.Given as goal

abbrev pub invariant-loop-entry : goal.invariant-loop-entry
invariant-loop-entry l =
    map sort_of l.out.items ++ map (λ e. sort_in e.values) (entries_of (codes "sort") (entries_in (drop l.entry-index l.entries)))
    ≡ map (λ e. sort_in e.values) (entries_of (codes "sort") (entries_in l.entries))
