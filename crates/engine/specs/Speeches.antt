-- A grammar as whoever answers lines with it sees it.
use Rattle.std.specs.Prelude.{ℕ, ◌≡◌, List, Option, length}
use Rattle.tree_model.specs.Signs.{Signs}
use Rattle.tree_model.specs.Lexical.{Words}
use Rattle.morph_analysis.specs.Lattices.{LatticeTree, steps_from}
use Rattle.item_reports.specs.Sentences.{words_of_line}
use Rattle.mrs_lines.specs.Lines.{Semantics}
use Rattle.grammar_load.specs.Loaded.{GrammarTree}
use Rattle.book_signs.specs.Signed.{IsSignsOf}
use Rattle.book_signs.specs.Trees.{entries_of, lexical_rules_of}
use Rattle.lexical_items.specs.Said.{words_said}
use Rattle.endings.specs.Meanings.{Files}
use Rattle.command_files.specs.Grammars.{HasGrammar}
use Rattle.mrs_lines.specs.Fitting.{mrs_paths_of}

-- its signs, what is said of words, the names of its instances, and where MRSs stand
pub record Speech : Type 0 where
  pub signs : Signs
  pub words : Words
  pub names : List (List ℕ)
  pub semantics : Semantics

-- A grammar as its lines see it: the signs of its book, the words of its entries and the forms of its lexical rules by place, its
-- names, and by its settings where MRSs stand.
pub record IsSpeechOf (g : GrammarTree) (speech : Speech) : Type 0 where
  pub signs : IsSignsOf g.book speech.signs
  pub words : speech.words ≡ words_said (entries_of speech.signs) (lexical_rules_of speech.signs) g.lexicon g.spelling
  pub names : speech.names ≡ g.names
  pub semantics : speech.semantics ≡ record { types = g.book.system.types; paths = mrs_paths_of g }

-- the grammar that some files say, as lines see it
abbrev pub HasSpeech : Files → List ℕ → Option (List ℕ) → Speech → Type 0
HasSpeech files name settings speech = (g : GrammarTree) × HasGrammar files name settings g × IsSpeechOf g speech

-- the lattice of the words of a line: one step for each word
abbrev pub lattice_of_words : List ℕ → LatticeTree
lattice_of_words cs = record { steps = steps_from 0 (words_of_line cs); end = length (words_of_line cs) }
