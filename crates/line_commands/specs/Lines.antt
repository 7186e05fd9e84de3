-- Commands that answer each line of their input with a grammar: what answers a line, and what such a command is to do.
use Rattle.std.specs.Prelude.{ℕ, ◌≡◌, Bool, true, false, List, ◌∷◌, [], Option}
use Rattle.std.specs.Str.{chars, IsUtf8}
use Rattle.morph_analysis.specs.Lattices.{LatticeTree}
use Rattle.morph_analysis.specs.LatticeLines.{IsLineOf, IsFirstWrong}
use Rattle.item_reports.specs.Reports.{no_text_line, no_lattice_line}
use Rattle.grammar_load.specs.Loaded.{GrammarTree}
use Rattle.endings.specs.Meanings.{Meaning, no_notes}
use Rattle.endings.specs.Reports.{AreAnswers, OrNoMemory}
use Rattle.command_files.specs.Grammars.{HasGrammar, IsFirstFault}
use Rattle.engine.specs.Speeches.{Speech, IsSpeechOf, lattice_of_words}

-- the lattice of a line: that of its words, or the one that it writes
abbrev pub IsLatticeOf : Bool → List ℕ → LatticeTree → Type 0
IsLatticeOf false cs lattice = lattice ≡ lattice_of_words cs
IsLatticeOf true cs lattice = IsLineOf cs lattice

-- The answer to the line of a number: its report lines, each with its end, and whether it is refused. A line that isn't UTF-8 is
-- refused first, and then one that writes no lattice where it is to write one; any other is answered by what reports on its lattice.
pub data IsLineAnswer (writes : Bool) (reports : LatticeTree → List (List ℕ) → Bool → Type 0) (number : ℕ) (line : List ℕ) : List (List ℕ) → Bool → Type 0 where
  no_text : (IsUtf8 line → ⊥) → IsLineAnswer writes reports number line (no_text_line number ∷ []) true
  no_lattice : (at : ℕ) → IsUtf8 line → writes ≡ true → IsFirstWrong (chars line) at → IsLineAnswer writes reports number line (no_lattice_line number at ∷ []) true
  answered : (lattice : LatticeTree) (lines : List (List ℕ)) (refused : Bool) → IsUtf8 line → IsLatticeOf writes (chars line) lattice → reports lattice lines refused
      → IsLineAnswer writes reports number line lines refused

-- what answers lines: by the number and the line, the report lines, and whether it is refused
abbrev pub LineAnswers : Type 1
LineAnswers = ℕ → List ℕ → List (List ℕ) → Bool → Type 0

-- A command over lines: the answers to them by the grammar of some files, one after the other, and no notes. `verbose` says whether
-- more is told of a fault of the files.
abbrev pub lines_meaning : (GrammarTree → Speech → LineAnswers) → List ℕ → Option (List ℕ) → Bool → Meaning
lines_meaning answers name settings verbose = record {
  opens = true;
  reads = true;
  loadable = λ files. (g : GrammarTree) × HasGrammar files name settings g;
  first = IsFirstFault name settings verbose;
  report = λ files lines pieces refused. (g : GrammarTree) × (speech : Speech) × HasGrammar files name settings g × IsSpeechOf g speech × AreAnswers (answers g speech) 1 lines pieces refused;
  with_gaps = λ files lines pieces wanting. (g : GrammarTree) × (speech : Speech) × HasGrammar files name settings g × IsSpeechOf g speech × AreAnswers (OrNoMemory (answers g speech)) 1 lines pieces wanting;
  notes = no_notes;
}
