use Rattle.std.proofs.Common.{◌≡◌, drop, filter}
use Rattle.grammar_settings.specs.Forms.{is_among, written_types}
use Rattle.grammar_settings.specs.Kept.{entries_in}
use Rattle.grammar_settings.specs.SettingsFiles.{last_line}
use Rattle.grammar_settings.proofs.lines.line_of_types.Given as goal

abbrev pub invariant-loop-entry : goal.invariant-loop-entry
invariant-loop-entry l =
    last_line l.line (filter (λ e. is_among written_types e.name) (entries_in (drop l.entry-index l.entries)))
    ≡ last_line 0 (filter (λ e. is_among written_types e.name) (entries_in l.entries))
