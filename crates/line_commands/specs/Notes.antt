-- The notes of `parse` where more is to be told: of a line without a tree, the words that no lexical tree covers.
use Rattle.std.specs.Prelude.{ℕ, ◌≡◌, Bool, true, false, List, [], ◌∷◌, ◌++◌, codes}
use Rattle.std.specs.Fmt.{decimal}
use Rattle.std.specs.List.{flat_map}
use Rattle.std.specs.Str.{chars, IsUtf8}
use Rattle.tree_model.specs.Items.{Answer, Trees}
use Rattle.tree_model.specs.Lattices.{Step}
use Rattle.tree_model.specs.Answers.{IsParseAnswer}
use Rattle.morph_analysis.specs.Lattices.{LatticeTree}
use Rattle.morph_analysis.specs.LatticeLines.{IsFirstWrong}
use Rattle.lexical_items.specs.Seen.{lattice_seen}
use Rattle.line_charts.specs.Unknown.{AreUnknown}
use Rattle.engine.specs.Speeches.{Speech}
use Rattle.line_commands.specs.Lines.{IsLatticeOf}
use Rattle.line_commands.specs.Answers.{Asked}

-- a blank and the word of a step
abbrev pub word_text : Step → List ℕ
word_text s = 32 ∷ s.word

-- `item N: unknown words W ..`, or that there are none
abbrev pub note_line : ℕ → List Step → List ℕ
note_line number [] = codes "item " ++ decimal number ++ codes ": no unknown words" ++ 10 ∷ []
note_line number (s ∷ steps) = codes "item " ++ decimal number ++ codes ": unknown words" ++ flat_map word_text (s ∷ steps) ++ 10 ∷ []

-- whether the answer is that there is no tree
abbrev pub has_no_tree : Answer → Bool
has_no_tree (Trees classes []) = true
has_no_tree other = false

-- the note by whether there is one; `unknown` says of steps that they are those that no lexical tree covers
abbrev pub IsNoteIf : Bool → (List Step → Type 0) → ℕ → List ℕ → Type 0
IsNoteIf false unknown number text = text ≡ []
IsNoteIf true unknown number text = (steps : List Step) × unknown steps × (text ≡ note_line number steps)

-- The note on the lattice of the line of a number: its unknown words, where it has no tree.
pub record IsTreesNote (speech : Speech) (asked : Asked) (number : ℕ) (lattice : LatticeTree) (text : List ℕ) : Type 0 where
  pub answer : Answer
  pub is : IsParseAnswer speech.signs speech.words (lattice_seen lattice) asked.lexical asked.limits answer
  pub note : IsNoteIf (has_no_tree answer) (AreUnknown speech.signs speech.words (lattice_seen lattice) asked.lexical (lattice_seen lattice).steps) number text

-- The note on a line, by what is noted on its lattice. A line that isn't UTF-8, or writes no lattice where it is to write one, has none.
pub data IsLineNote (writes : Bool) (notes : LatticeTree → List ℕ → Type 0) (line : List ℕ) : List ℕ → Type 0 where
  no_text_noted : (IsUtf8 line → ⊥) → IsLineNote writes notes line []
  no_lattice_noted : (at : ℕ) → IsUtf8 line → writes ≡ true → IsFirstWrong (chars line) at → IsLineNote writes notes line []
  lattice_noted : (lattice : LatticeTree) (text : List ℕ) → IsUtf8 line → IsLatticeOf writes (chars line) lattice → notes lattice text → IsLineNote writes notes line text

-- The note on the line of a number. The flag says whether more is to be told; without it there is none.
abbrev pub IsNote : Bool → Speech → Asked → ℕ → List ℕ → List ℕ → Type 0
IsNote false speech asked number line text = text ≡ []
IsNote true speech asked number line text = IsLineNote asked.lattice (IsTreesNote speech asked number) line text
