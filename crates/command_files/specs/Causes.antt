-- The causes of faults of files in plain words, one line each.
use Rattle.std.specs.Prelude.{ℕ, List, codes}
use Rattle.tdl_lexer.specs.declared.LexFault.{LexFault}
use Rattle.tdl_lexer.specs.declared.LexFault.TheVariants.{NotUtf8, BadChar, OpenString, OpenComment, OpenGroup, NoMemory as LexNoMemory}
use Rattle.tdl_reader.specs.declared.ReadFault.{ReadFault}
use Rattle.tdl_reader.specs.declared.ReadFault.TheVariants.{Unexpected, EndOfFile, TooDeep, BadAffix, NoMemory as ReadNoMemory}
use Rattle.type_hierarchy.specs.declared.decl.TypeFault.{TypeFault}
use Rattle.type_hierarchy.specs.declared.decl.TypeFault.TheVariants.{Duplicate, Unknown, Cycle, Reserved, TooMany as TooManyWritten, NoMemory as TypeNoMemory}
use Rattle.grammar_files.specs.declared.expand_fault.ExpandFault.{ExpandFault}
use Rattle.grammar_files.specs.declared.expand_fault.ExpandFault.TheVariants.{UnknownName, NoIntro, Intro, NoStructure, NoMemory as ExpandNoMemory}
use Rattle.grammar_files.specs.declared.fault.Why.{Why}
use Rattle.grammar_files.specs.declared.fault.Why.TheVariants.{Settings, Shelf as ShelfFailed, TooLong as FileTooLong, IncludeLoop, TooManyFiles, Lex, Read as Misread, Environment, Typing, TooManyTypes, Expand, Arity, Orthography}

abbrev pub lex_cause : LexFault → List ℕ
lex_cause (NotUtf8 at) = codes "a byte that isn't UTF-8"
lex_cause (BadChar at) = codes "a character that begins nothing of TDL"
lex_cause (OpenString at) = codes "a string or docstring that doesn't end; its first quote is told"
lex_cause (OpenComment at) = codes "`#|` without its end"
lex_cause (OpenGroup at) = codes "a parenthesis of a spelling rule or letter set without its end"
lex_cause LexNoMemory = codes "memory was wanting"

abbrev pub read_cause : ReadFault → List ℕ
read_cause (Unexpected at) = codes "what stands there can't go on a statement: mostly an `&`, a comma or a full stop is missing before it"
read_cause EndOfFile = codes "the file ends inside a statement"
read_cause (TooDeep at) = codes "brackets more than 200 deep"
read_cause (BadAffix at) = codes "a group or letter set out of form, or a set that isn't defined before in this file"
read_cause ReadNoMemory = codes "memory was wanting"

abbrev pub type_cause : TypeFault → List ℕ
type_cause (Duplicate name) = codes "a type, or an instance of one status, is defined twice"
type_cause (Unknown name parent) = codes "a type has a supertype that isn't defined"
type_cause (Cycle name) = codes "a type is below itself"
type_cause (Reserved name) = codes "a type is called as the top type, or `glbtype` with digits"
type_cause (TooManyWritten count) = codes "more than 16,384 types; their number is told"
type_cause TypeNoMemory = codes "memory was wanting"

abbrev pub expand_cause : ExpandFault → List ℕ
expand_cause (UnknownName name at statement) = codes "a name that no type has; for a list, one of the types that lists are made of"
expand_cause (NoIntro feature at statement) = codes "the feature is misspelled, or no type writes it at the beginning of a path in its own body"
expand_cause (Intro feature a b statement) = codes "several types write the feature, and none of them is above the others"
expand_cause (NoStructure name statement) = codes "two types at one path have no common subtype, or a path gets longer than `path-limit`, as where a type asks for itself below itself, or there are more paths than `node-limit`"
expand_cause ExpandNoMemory = codes "memory was wanting"

-- No cause is a want of memory.
abbrev pub cause_of : Why → List ℕ
cause_of Settings = codes "a line of the settings is out of form: no such name, too few or too many values, or a value of another kind"
cause_of ShelfFailed = codes "there is no such file, it is a folder, or it can't be read"
cause_of FileTooLong = codes "a file of more than 67,108,864 bytes"
cause_of IncludeLoop = codes "a file includes one that is still being read"
cause_of TooManyFiles = codes "the 1,025th file"
cause_of (Lex fault) = lex_cause fault
cause_of (Misread fault) = read_cause fault
cause_of Environment =
    codes "`:begin` inside an environment, `:end` of none, an environment left open, `:+` on an instance, or a spelling rule on anything but a `lex-rule`"
cause_of (Typing fault) = type_cause fault
cause_of TooManyTypes = codes "more than 65,535 types with the added ones; the top file is told"
cause_of (Expand fault) = expand_cause fault
cause_of Arity = codes "the daughters of a rule aren't a closed list of 1 to 4, or those of a lexical rule not of 1"
cause_of Orthography = codes "the words of an entry aren't a closed list of strings with a word"

-- the cause of a statement that is no rule of `transfer`
abbrev pub form_cause : List ℕ
form_cause =
    codes "the statement is no rule of `transfer`: it has no INPUT, a part that isn't one of the four or isn't a closed list, too many relations, or a relation out of form; or a rule before it has its name"
