-- The faults of the files of a grammar.
use Rattle.std.specs.Prelude.{ℕ, List, string_bytes, length}
use Rattle.tdl_lexer.specs.declared.LexFault.{LexFault}
use Rattle.tdl_lexer.specs.declared.LexFault.TheVariants.{NotUtf8, BadChar, OpenString, OpenComment, OpenGroup, NoMemory as LexNoMemory}
use Rattle.tdl_reader.specs.declared.ReadFault.{ReadFault}
use Rattle.tdl_reader.specs.declared.ReadFault.TheVariants.{Unexpected, EndOfFile, TooDeep, BadAffix, NoMemory as ReadNoMemory}
use Rattle.grammar_files.specs.declared.fault.Why.{Why}
use Rattle.grammar_files.specs.declared.fault.LoadFault.{LoadFault}
use Rattle.grammar_files.specs.declared.fault.LoadFault.TheVariants.{NoMemory, Found}
use Rattle.grammar_settings.specs.Forms.{Name}

-- a fault: its file, its place there, and its cause
pub record FoundFault : Type 0 where
  pub file : Name
  pub at : ℕ
  pub why : Why

-- Want of memory may stand in place of every answer; any other fault is as P says.
abbrev pub IsFaultBy : (FoundFault → Type 0) → LoadFault → Type 0
IsFaultBy P NoMemory = Unit {0}
IsFaultBy P (Found file at why) = P (record { file = string_bytes file; at = at; why = why })

-- the place of a fault of a file's tokens
abbrev pub place_of_lex : LexFault → ℕ
place_of_lex (NotUtf8 at) = at
place_of_lex (BadChar at) = at
place_of_lex (OpenString at) = at
place_of_lex (OpenComment at) = at
place_of_lex (OpenGroup at) = at
place_of_lex LexNoMemory = 0

-- the place of a fault of the statements of a file with this text; at its end it is the file's length
abbrev pub place_of_read : List ℕ → ReadFault → ℕ
place_of_read text (Unexpected at) = at
place_of_read text EndOfFile = length text
place_of_read text (TooDeep at) = at
place_of_read text (BadAffix at) = at
place_of_read text ReadNoMemory = 0
