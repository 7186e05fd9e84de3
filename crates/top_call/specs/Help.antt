-- What `--help` prints, and help on a command.
use Rattle.std.specs.Prelude.{ℕ, List, [], ◌∷◌, ◌++◌, codes, map}
use Rattle.std.specs.List.{flat_map}
use Rattle.command_line.specs.Words.{OptionName, Workers, Edges, Readings, Lexical, Unary, Empty, Settings, Mrs, Lattice, Verbose}
use Rattle.command_line.specs.declared.tasks.CommandName.{CommandName}
use Rattle.command_line.specs.declared.tasks.CommandName.TheVariants as named

-- the line of a command
abbrev pub command_line_of : CommandName → List ℕ
command_line_of named.Parse = codes "  parse GRAMMAR          for each line of the input the number of its packed classes, and all its trees"
command_line_of named.Chart = codes "  chart GRAMMAR          for each line of the input the words that no entry covers, and its packed classes"
command_line_of named.Explain = codes "  explain GRAMMAR        for each tree of the input whether it is licensed, and if not, where it fails and why"
command_line_of named.Generate = codes "  generate GRAMMAR       for each MRS of the input the number of its packed classes, and all its sentences"
command_line_of named.Types = codes "  types GRAMMAR          the completed types, each with its immediate supertypes"
command_line_of named.Check = codes "  check GRAMMAR          one line that counts types, features, entries, rules and roots"
command_line_of named.Expand = codes "  expand GRAMMAR NAME    the structure of a type, entry, rule or root: a line for each path"
command_line_of named.SelfTest = codes "  self-test NUMBER SIZE  the workload of NUMBER with SIZE lines (1 to 1000), parsed and summed up in a line"
command_line_of named.Batch = codes "  batch GRAMMAR PROFILE  each item of a profile compared with what the grammar gives, and a summary"
command_line_of named.Scope = codes "  scope                  for each MRS of the input the number of its scoped readings, and all of them"
command_line_of named.Transfer = codes "  transfer RULES         for each MRS of the input what the rules of RULES make of it, and in how many steps"

-- the line of an option, with its default
abbrev pub option_line_of : OptionName → List ℕ
option_line_of Settings = codes "  --settings NAME  a file of settings (each setting's default)"
option_line_of Edges = codes "  --edges N        the most packed classes of a line, 1 to 20000 (5000)"
option_line_of Readings = codes "  --readings N     the most trees of a line, or the most readings of an MRS, 1 to 100000 (10000)"
option_line_of Lexical = codes "  --lexical N      the most lexical rules over an entry, 0 to 15 (7)"
option_line_of Unary = codes "  --unary N        the most unary rules one over another, 0 to 32 (8)"
option_line_of Empty = codes "  --empty N        the most words without a predicate in a generated sentence, 0 to 16 (4)"
option_line_of Workers = codes "  --workers N      how many workers answer lines, 1 to 64 (1); no answer depends on it"
option_line_of Lattice = codes "  --lattice        each line writes a lattice, FROM:TO:WORD for each step (a line is its words)"
option_line_of Mrs = codes "  --mrs            each tree that is listed or licensed is followed by its MRS (no MRSs)"
option_line_of Verbose = codes "  --verbose        tells where and why files have a fault, and, in parse, the unknown words of lines without a tree (neither)"

-- what each command and option does, and the default of each option
abbrev pub help_lines : List (List ℕ)
help_lines =
    codes "lkb: typed feature structure grammars in DELPH-IN TDL"
    ∷ []
    ∷ codes "Commands:"
    ∷ command_line_of named.Parse
    ∷ command_line_of named.Chart
    ∷ command_line_of named.Explain
    ∷ command_line_of named.Generate
    ∷ command_line_of named.Types
    ∷ command_line_of named.Check
    ∷ command_line_of named.Expand
    ∷ command_line_of named.SelfTest
    ∷ command_line_of named.Batch
    ∷ command_line_of named.Scope
    ∷ command_line_of named.Transfer
    ∷ codes "  --help, --version      this text (COMMAND --help: the lines of COMMAND); the version"
    ∷ []
    ∷ codes "GRAMMAR is the top file of a grammar; .tdl is added to a name without an ending. PROFILE and RULES are files, as they are"
    ∷ codes "named."
    ∷ []
    ∷ codes "Options, in any order after the command, each with its default:"
    ∷ option_line_of Settings
    ∷ option_line_of Edges
    ∷ option_line_of Readings
    ∷ option_line_of Lexical
    ∷ option_line_of Unary
    ∷ option_line_of Empty
    ∷ option_line_of Workers
    ∷ option_line_of Lattice
    ∷ option_line_of Mrs
    ∷ option_line_of Verbose
    ∷ []
    ∷ codes "Every command takes every option and heeds those that concern it."
    ∷ []
    ∷ codes "Status: 0 all was done; 2 the words are outside the form; 3 the command's files have a fault; 4 a line was"
    ∷ codes "refused or isn't in its form, a tree isn't licensed, an item of a profile differs or is bad, or NAME stands"
    ∷ codes "for nothing; 5 the input failed or a line is too long; 6 the output failed; 7 memory was wanting"
    ∷ []

-- the lines, each with a line feed after it
abbrev pub help_page : List ℕ
help_page = flat_map (λ line. line ++ 10 ∷ []) help_lines

-- the options that a command heeds
abbrev pub heeded_by : CommandName → List OptionName
heeded_by named.Parse = Settings ∷ Edges ∷ Readings ∷ Lexical ∷ Unary ∷ Workers ∷ Lattice ∷ Mrs ∷ Verbose ∷ []
heeded_by named.Chart = Settings ∷ Edges ∷ Lexical ∷ Unary ∷ Workers ∷ Lattice ∷ Verbose ∷ []
heeded_by named.Explain = Settings ∷ Workers ∷ Mrs ∷ Verbose ∷ []
heeded_by named.Generate = Settings ∷ Edges ∷ Readings ∷ Lexical ∷ Unary ∷ Empty ∷ Workers ∷ Verbose ∷ []
heeded_by named.Types = Settings ∷ Verbose ∷ []
heeded_by named.Check = Settings ∷ Verbose ∷ []
heeded_by named.Expand = Settings ∷ Verbose ∷ []
heeded_by named.SelfTest = Edges ∷ Readings ∷ Lexical ∷ Unary ∷ Workers ∷ []
heeded_by named.Batch = Settings ∷ Edges ∷ Readings ∷ Lexical ∷ Unary ∷ Workers ∷ Verbose ∷ []
heeded_by named.Scope = Readings ∷ Workers ∷ []
heeded_by named.Transfer = Settings ∷ Workers ∷ Verbose ∷ []

-- help on a command: its line, and those of the options that it heeds
abbrev pub page_on : CommandName → List ℕ
page_on command = flat_map (λ line. line ++ 10 ∷ []) (command_line_of command ∷ map option_line_of (heeded_by command))
