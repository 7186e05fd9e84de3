-- What is counted, and why there is nothing to count.
use Rattle.std.specs.Prelude.{ℕ, ◌≡◌, true, false, List, [], ◌∷◌, ◌++◌, None, Some, map}
use Rattle.tree_model.specs.Items.{Limits, Answer}
use Rattle.grammar_load.specs.Loaded.{GrammarTree}
use Rattle.endings.specs.Meanings.{FileFault}
use Rattle.endings.specs.declared.commands.ItemsReport.{ItemsReport}
use Rattle.endings.specs.declared.commands.ItemsReport.TheVariants.{AllAnswered, WithGaps}
use Rattle.endings.specs.declared.Fault.{Fault}
use Rattle.endings.specs.declared.Fault.TheVariants.{Files as FilesFault, Stopped}
use Rattle.endings.specs.declared.Stop.TheVariants.{NoMemory}
use Rattle.command_files.specs.Grammars.{IsFirstFault, never}
use Rattle.engine.specs.Speeches.{Speech, IsSpeechOf}
use Rattle.self_tests.specs.declared.counts.Count.{Count}
use Rattle.self_tests.specs.Summaries.{summary_line, is_some_refused, is_some_lacking}
use Rattle.self_tests.specs.Items.{count_of, IsItem, IsCountOrGap, AreCountsOrGaps}
use Rattle.self_tests.specs.SelfTests.{workload_files, workload_name, gap_lines, IsSummed, IsSummedWithGaps}

-- what is counted of the answer to a line
abbrev pub IsCounted : Speech → Limits → ℕ → List ℕ → Count → Type 0
IsCounted speech limits most line count = (answer : Answer) × IsItem speech.signs speech.words limits most line answer × (count ≡ count_of answer)

-- the same, or that memory was wanting for it
abbrev pub MayBeCounted : Speech → Limits → ℕ → List ℕ → Count → Type 0
MayBeCounted speech limits most line count = IsCountOrGap speech.signs speech.words limits most line count

-- what is counted of lines, by a grammar, where memory may have been wanting
abbrev pub AreCountedWith : GrammarTree → Limits → ℕ → List (List ℕ) → List Count → Type 0
AreCountedWith g limits most lines counts = (speech : Speech) × IsSpeechOf g speech × AreCountsOrGaps speech.signs speech.words limits most lines counts

-- the report on what is counted: with items that are told to lack memory exactly where there are such
abbrev pub IsToldOf : ℕ → ℕ → List Count → ItemsReport → Type 0
IsToldOf number size counts (AllAnswered r) =
    (is_some_lacking counts ≡ false) × (map (λ l. l.items) r.lines.items ≡ gap_lines 1 counts ++ summary_line number size counts ∷ []) × (r.refused ≡ is_some_refused counts)
IsToldOf number size counts (WithGaps lines) =
    (is_some_lacking counts ≡ true) × (map (λ l. l.items) lines.items ≡ gap_lines 1 counts ++ summary_line number size counts ∷ [])

-- the report of a workload, each line answered, or the one in which items are told to lack memory
abbrev pub IsSummedSo : Speech → Limits → ℕ → ℕ → ℕ → ItemsReport → Type 0
IsSummedSo speech limits most number size (AllAnswered r) = IsSummed speech limits most number size (map (λ l. l.items) r.lines.items) r.refused
IsSummedSo speech limits most number size (WithGaps lines) = IsSummedWithGaps speech limits most number size (map (λ l. l.items) lines.items) true

-- why the file of a workload has no grammar: its first fault, or want of memory
abbrev pub IsWorkloadFault : Fault → Type 0
IsWorkloadFault (FilesFault text) = (fault : FileFault) × IsFirstFault workload_name None false workload_files never fault × ((file : List ℕ) → fault.failed ≡ Some file → ⊥) × (text.items ≡ fault.text ++ fault.details)
IsWorkloadFault (Stopped NoMemory) = Unit {0}
IsWorkloadFault fault = ⊥
