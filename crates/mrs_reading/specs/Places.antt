-- Texts of SimpleMRS, and where a line that is none is first out of form.
use Rattle.std.specs.Prelude.{ℕ, List, map, length, take}
use Rattle.std.specs.Str.{chars, IsUtf8, IsValidUpTo, encode_utf8_all}
use Rattle.mrs_model.specs.Meanings.{Meaning}
use Rattle.mrs_spelling.specs.Reading.{Tok}
use Rattle.mrs_spelling.specs.Conditions.{word_of, AllKeep}
use Rattle.mrs_spelling.specs.Faults.{Spells, FirstFault}
use Rattle.mrs_reading.specs.Meaning.{piece_of, IsMeaningOf}

-- the characters are a text of the grammar whose tokens keep the conditions
pub record IsText (cs : List ℕ) : Type 0 where
  pub toks : List Tok
  pub spelled : Spells cs toks
  pub keeps : AllKeep (map word_of toks)

-- the MRS has the variables, the top, the index and the constraints that the characters say
pub record Says (m : Meaning) (cs : List ℕ) : Type 0 where
  pub toks : List Tok
  pub spelled : Spells cs toks
  pub keeps : AllKeep (map word_of toks)
  pub meaning : IsMeaningOf (map piece_of toks) m

-- The byte of the first fault. Where the line isn't UTF-8, that of its longest front that is, or the end of that front where it is a text.
pub data IsPlace (line : List ℕ) : ℕ → Type 0 where
  in_text : (front : List ℕ) → IsUtf8 line → FirstFault (chars line) front → IsPlace line (length (encode_utf8_all front))
  in_front : (n : ℕ) (front : List ℕ) → (IsUtf8 line → ⊥) → IsValidUpTo line n → FirstFault (chars (take n line)) front → IsPlace line (length (encode_utf8_all front))
  after_text : (n : ℕ) → (IsUtf8 line → ⊥) → IsValidUpTo line n → IsText (chars (take n line)) → IsPlace line n
