-- What contracts see of the text of a file, and of its faults.
use Rattle.std.specs.Prelude.{◌≡◌, ◌⊎◌, ℕ, Bool, true, List, Option, None, Some}
use Rattle.lkb_io.specs.declared.ShelfFault.{ShelfFault}
use Rattle.lkb_io.specs.declared.ShelfFault.TheVariants.{Failed, TooLong as ShelfTooLong, NoMemory as ShelfNoMemory}
use Rattle.tdl_lexer.specs.declared.Token.{Token}
use Rattle.tdl_lexer.specs.declared.LexFault.{LexFault}
use Rattle.tdl_lexer.specs.Readings.{Tokens}
use Rattle.tdl_reader.specs.declared.ReadFault.{ReadFault}
use Rattle.tdl_reader.specs.Reading.{IsReading, FirstFault}
use Rattle.tdl_reader.specs.Toks.{toks_of}
use Rattle.tdl_reader.specs.Trees.{StatementTree}
use Rattle.grammar_files.specs.declared.fault.Why.TheVariants.{Shelf, TooLong, Lex, Read}
use Rattle.grammar_files.specs.Faults.{FoundFault, place_of_lex, place_of_read}
use Rattle.grammar_settings.specs.Forms.{Name}
use Rattle.grammar_files.specs.Walks.{fault_at, has_failed}

-- the fault of a file that its shelf doesn't give
abbrev pub IsShelfFault : Name → ShelfFault → FoundFault → Type 0
IsShelfFault file Failed f = f ≡ fault_at file 0 Shelf
IsShelfFault file ShelfTooLong f = f ≡ fault_at file 0 TooLong
IsShelfFault file ShelfNoMemory f = ⊥

-- the fault of a file whose bytes have no tokens
abbrev pub IsLexFault : Name → List ℕ → FoundFault → Type 0
IsLexFault name text f = (ts : List Token) × (e : LexFault) × Tokens text ts (Some e) × (f ≡ fault_at name (place_of_lex e) (Lex e))

-- the statements of a file with this text
pub record SaysOf (text : List ℕ) (ss : List StatementTree) : Type 0 where
  pub tokens : List Token
  pub reading : Tokens text tokens None
  pub statements : IsReading (toks_of text tokens) ss

-- the fault of a file whose tokens are no statements
abbrev pub IsReadFault : Name → List ℕ → FoundFault → Type 0
IsReadFault name text f =
    (ts : List Token) × (e : ReadFault) × Tokens text ts None × FirstFault (toks_of text ts) e × (f ≡ fault_at name (place_of_read text e) (Read e))

-- the fault of a file with this text
abbrev pub IsFaultOfText : Name → List ℕ → FoundFault → Type 0
IsFaultOfText name text f = IsLexFault name text f ⊎ IsReadFault name text f

-- the shelf fails at the name that was asked for where its count of faults rose
abbrev pub Covers : ℕ → ℕ → Option Name → (Name → Bool) → Type 0
Covers old new asked fails = (name : Name) → has_failed old new asked name ≡ true → fails name ≡ true
