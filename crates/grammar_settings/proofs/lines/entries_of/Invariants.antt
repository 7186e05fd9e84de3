use Rattle.std.proofs.Common.{◌≡◌, ◌≤◌, ◌+◌, length}
use Rattle.lkb_io.specs.Lines.{lines_of}
use Rattle.grammar_settings.specs.Kept.{entries_in}
use Rattle.grammar_settings.specs.SettingsFiles.{entries_from}
use Rattle.grammar_settings.proofs.EntryLemmas.{joined}
use Rattle.grammar_settings.proofs.lines.entries_of.Given as goal

abbrev pub invariant-loop-rest : goal.invariant-loop-rest
invariant-loop-rest l = record {
  room : l.count + length l.rest ≤ length l.bytes;
  same : joined (entries_in l.entries.items) (entries_from (l.count + 1) (lines_of l.rest)) ≡ entries_from 1 (lines_of l.bytes);
}

abbrev pub decreases-loop-rest : goal.decreases-loop-rest
decreases-loop-rest l = length l.rest
