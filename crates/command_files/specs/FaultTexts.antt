-- The texts of faults of files. Each is one line, which ends with byte 10.
use Rattle.std.specs.Prelude.{ℕ, List, [], ◌∷◌, ◌++◌, Bool, map, codes, if◌then◌else◌, true, false, string_bytes}
use Rattle.std.specs.Char.{to_ascii_uppercase}
use Rattle.std.specs.Fmt.{decimal}
use Rattle.tdl_lexer.specs.declared.LexFault.{LexFault}
use Rattle.tdl_lexer.specs.declared.LexFault.TheVariants.{NotUtf8, BadChar, OpenString, OpenComment, OpenGroup, NoMemory as LexNoMemory}
use Rattle.tdl_reader.specs.declared.ReadFault.{ReadFault}
use Rattle.tdl_reader.specs.declared.ReadFault.TheVariants.{Unexpected, EndOfFile, TooDeep, BadAffix, NoMemory as ReadNoMemory}
use Rattle.type_hierarchy.specs.declared.decl.TypeFault.{TypeFault}
use Rattle.type_hierarchy.specs.declared.decl.TypeFault.TheVariants.{Duplicate, Unknown, Cycle, Reserved, TooMany as TooManyWritten, NoMemory as TypeNoMemory}
use Rattle.grammar_files.specs.declared.expand_fault.ExpandFault.{ExpandFault}
use Rattle.grammar_files.specs.declared.expand_fault.ExpandFault.TheVariants.{UnknownName, NoIntro, Intro, NoStructure, NoMemory as ExpandNoMemory}
use Rattle.grammar_files.specs.declared.fault.Why.{Why}
use Rattle.grammar_files.specs.declared.fault.Why.TheVariants.{Settings, Shelf as ShelfFailed, TooLong as FileTooLong, IncludeLoop, TooManyFiles, Lex, Read as Misread, Environment, Typing, TooManyTypes, Expand, Arity, Orthography}
use Rattle.grammar_files.specs.Faults.{FoundFault}

-- these words, each after a blank
abbrev pub spaced : List (List ℕ) → List ℕ
spaced [] = []
spaced (word ∷ words) = 32 ∷ (word ++ spaced words)

abbrev pub lex_fault_name : LexFault → List ℕ
lex_fault_name (NotUtf8 at) = codes "NotUtf8"
lex_fault_name (BadChar at) = codes "BadChar"
lex_fault_name (OpenString at) = codes "OpenString"
lex_fault_name (OpenComment at) = codes "OpenComment"
lex_fault_name (OpenGroup at) = codes "OpenGroup"
lex_fault_name LexNoMemory = codes "NoMemory"

abbrev pub read_fault_name : ReadFault → List ℕ
read_fault_name (Unexpected at) = codes "Unexpected"
read_fault_name EndOfFile = codes "EndOfFile"
read_fault_name (TooDeep at) = codes "TooDeep"
read_fault_name (BadAffix at) = codes "BadAffix"
read_fault_name ReadNoMemory = codes "NoMemory"

-- the name of a fault of types, and the names that it carries
abbrev pub type_fault_words : TypeFault → List (List ℕ)
type_fault_words (Duplicate name) = codes "Duplicate" ∷ string_bytes name ∷ []
type_fault_words (Unknown name parent) = codes "Unknown" ∷ string_bytes name ∷ string_bytes parent ∷ []
type_fault_words (Cycle name) = codes "Cycle" ∷ string_bytes name ∷ []
type_fault_words (Reserved name) = codes "Reserved" ∷ string_bytes name ∷ []
type_fault_words (TooManyWritten count) = codes "TooMany" ∷ decimal count ∷ []
type_fault_words TypeNoMemory = codes "NoMemory" ∷ []

-- a feature in ASCII upper case
abbrev pub feature_name : List ℕ → List ℕ
feature_name feature = map to_ascii_uppercase feature

-- the name of a fault of expansion, and the names that it carries
abbrev pub expand_fault_words : ExpandFault → List (List ℕ)
expand_fault_words (UnknownName name at statement) = codes "UnknownName" ∷ string_bytes name ∷ []
expand_fault_words (NoIntro feature at statement) = codes "NoIntro" ∷ feature_name (string_bytes feature) ∷ []
expand_fault_words (Intro feature a b statement) = codes "Intro" ∷ feature_name (string_bytes feature) ∷ string_bytes a ∷ string_bytes b ∷ []
expand_fault_words (NoStructure name statement) = codes "NoStructure" ∷ string_bytes name ∷ []
expand_fault_words ExpandNoMemory = codes "NoMemory" ∷ []

-- The name of a cause, and the names or the count that it carries. No cause is a want of memory.
abbrev pub why_words : Why → List (List ℕ)
why_words Settings = codes "Settings" ∷ []
why_words ShelfFailed = codes "Shelf" ∷ []
why_words FileTooLong = codes "TooLong" ∷ []
why_words IncludeLoop = codes "IncludeLoop" ∷ []
why_words TooManyFiles = codes "TooManyFiles" ∷ []
why_words (Lex fault) = lex_fault_name fault ∷ []
why_words (Misread fault) = read_fault_name fault ∷ []
why_words Environment = codes "Environment" ∷ []
why_words (Typing fault) = type_fault_words fault
why_words TooManyTypes = codes "TooManyTypes" ∷ []
why_words (Expand fault) = expand_fault_words fault
why_words Arity = codes "Arity" ∷ []
why_words Orthography = codes "Orthography" ∷ []

-- a cause that says something of a place in the file
abbrev pub has_place : Why → Bool
has_place ShelfFailed = false
has_place FileTooLong = false
has_place IncludeLoop = false
has_place TooManyFiles = false
has_place why = true

-- `:` and the place, where the cause has one
abbrev pub place_text : Why → ℕ → List ℕ
place_text why at = if has_place why then 58 ∷ decimal at else []

-- the end of a line that tells a fault: the cause's name, and after a blank each what it carries
abbrev pub cause_text : Why → List ℕ
cause_text why = codes ":" ++ (spaced (why_words why) ++ 10 ∷ [])

-- `lkb: FILE:AT: NAME`, and after a blank each the names that the fault carries
abbrev pub found_text : FoundFault → List ℕ
found_text f = (codes "lkb: " ++ f.file) ++ (place_text f.why f.at ++ cause_text f.why)

-- `lkb: FILE:AT: WORD`
abbrev pub word_text : List ℕ → ℕ → List ℕ → List ℕ
word_text file at word = (codes "lkb: " ++ file) ++ ((58 ∷ decimal at) ++ (codes ": " ++ (word ++ 10 ∷ [])))
