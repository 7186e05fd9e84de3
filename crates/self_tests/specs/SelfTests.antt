-- What `self-test` is to do: the lines of a workload are parsed with the workload's grammar, and what is counted of the answers is summed up.
use Rattle.std.specs.Prelude.{ℕ, suc, ◌≡◌, Bool, false, List, [], ◌∷◌, ◌++◌, Option, None, Some, map, codes}
use Rattle.lkb_io.specs.Shelves.{NamedFile, file_or_empty}
use Rattle.self_tests.specs.Made.{File, files}
use Rattle.self_tests.specs.Lines.{lines}
use Rattle.grammar_load.specs.Loaded.{GrammarTree}
use Rattle.endings.specs.Meanings.{Meaning, Files, no_notes}
use Rattle.endings.specs.Reports.{no_memory_line}
use Rattle.command_files.specs.Grammars.{HasGrammar, IsFirstFault, never}
use Rattle.tree_model.specs.Items.{Limits}
use Rattle.self_tests.specs.declared.counts.Count.{Count}
use Rattle.self_tests.specs.declared.counts.Count.TheVariants.{NoMemory}
use Rattle.self_tests.specs.Summaries.{summary_line, is_some_refused, is_some_lacking}
use Rattle.engine.specs.Speeches.{Speech, HasSpeech}
use Rattle.self_tests.specs.Items.{AreCounted, AreCountsOrGaps}

-- a file of a workload, as a shelf has it
abbrev pub shelved : File → NamedFile
shelved f = record { name = f.name; text = f.text }

-- The files of a workload, on a shelf of their own: it never fails, and has an empty file under every other name.
abbrev pub workload_shelf : List ℕ → Option (List ℕ)
workload_shelf = file_or_empty (map shelved files)

abbrev pub workload_files : Files
workload_files = Some workload_shelf

-- the file that is loaded
abbrev pub workload_name : List ℕ
workload_name = codes "g.tdl"

-- The report: one line, the summary of the items of a workload; and whether one of them is refused.
abbrev pub IsSummed : Speech → Limits → ℕ → ℕ → ℕ → List (List ℕ) → Bool → Type 0
IsSummed speech limits most number size pieces refused =
    (counts : List Count) × AreCounted speech.signs speech.words limits most (lines number size) counts
    × (pieces ≡ summary_line number size counts ∷ []) × (refused ≡ is_some_refused counts)

-- the line of the item of a number, where memory was wanting for it
abbrev pub gap_line : ℕ → Count → List (List ℕ)
gap_line number NoMemory = no_memory_line number ∷ []
gap_line number other = []

-- these lines of items that are numbered from here on
abbrev pub gap_lines : ℕ → List Count → List (List ℕ)
gap_lines number [] = []
gap_lines number (count ∷ counts) = gap_line number count ++ gap_lines (suc number) counts

-- The same where memory may have been wanting: such items are told before the summary, and count as refused there; and whether there is
-- one.
abbrev pub IsSummedWithGaps : Speech → Limits → ℕ → ℕ → ℕ → List (List ℕ) → Bool → Type 0
IsSummedWithGaps speech limits most number size pieces wanting =
    (counts : List Count) × AreCountsOrGaps speech.signs speech.words limits most (lines number size) counts
    × (pieces ≡ gap_lines 1 counts ++ summary_line number size counts ∷ []) × (wanting ≡ is_some_lacking counts)

-- `self-test`, within these limits: the items of the workload of a number and a size, by the grammar that its file loads to under the
-- default settings. A first fault of that file would be told as one of any grammar.
abbrev pub self_test_meaning : ℕ → ℕ → Limits → ℕ → Meaning
self_test_meaning number size limits most = record {
  opens = false;
  reads = false;
  loadable = λ files. (g : GrammarTree) × HasGrammar workload_files workload_name None g;
  first = λ files fails fault. IsFirstFault workload_name None false workload_files never fault;
  report = λ files lines pieces refused. (speech : Speech) × HasSpeech workload_files workload_name None speech × IsSummed speech limits most number size pieces refused;
  with_gaps = λ files lines pieces wanting. (speech : Speech) × HasSpeech workload_files workload_name None speech × IsSummedWithGaps speech limits most number size pieces wanting;
  notes = no_notes;
}
