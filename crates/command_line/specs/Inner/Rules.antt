-- The command line as `clap` reads it.
use Rattle.std.specs.Prelude.{ℕ, List, [], ◌∷◌, Option, None, Some, true, codes, zero, suc}
use Rattle.clap.specs.Words.{App, Rule, Text, new_app, new_rule, with_rule}
use Rattle.clap.specs.declared.builder.action.ArgAction.{ArgAction}
use Rattle.clap.specs.declared.builder.action.ArgAction.TheVariants.{SetTrue}
use Rattle.clap.specs.declared.builder.value_parser.ValueParser.{ValueParser}
use Rattle.clap.specs.declared.builder.value_parser.ValueParser.TheVariants as vp
use Rattle.command_line.specs.Words.{OptionName, Workers, Edges, Readings, Lexical, Unary, Empty, Settings, Mrs, Lattice, Verbose, Value, in_range, nothing, option_id, value_of}

-- what reads such a value, where `clap` isn't to take any text
abbrev pub parser_by : Value → Option ValueParser
parser_by (in_range least greatest) = Some (vp.Unsigned least greatest)
parser_by value = None

abbrev pub action_by : Value → Option ArgAction
action_by nothing = Some SetTrue
action_by value = None

-- an option with such a value
abbrev pub option_rule_by : Value → Text → Rule
option_rule_by value id = record (new_rule id) { long = Some id; parser = parser_by value; action = action_by value }

abbrev pub option_rule : OptionName → Rule
option_rule o = option_rule_by (value_of o) (option_id o)

-- a place of a positional word with such a value
abbrev pub place_rule_by : Value → Text → Rule
place_rule_by value id = record (new_rule id) { required = true; parser = parser_by value }

-- the name of a place
abbrev pub place_id : ℕ → Text
place_id zero = codes "first"
place_id (suc k) = codes "second"

-- a command line of no words but options
abbrev pub bare : App
bare = record (new_app (codes "lkb")) { top = record (new_app (codes "lkb")).top { no_binary_name = true; disable_help_flag = true } }

abbrev pub options_app : App
options_app = with_rule (with_rule (with_rule (with_rule (with_rule (with_rule (with_rule (with_rule (with_rule (with_rule bare
    (option_rule Workers)) (option_rule Edges)) (option_rule Readings)) (option_rule Lexical)) (option_rule Unary)) (option_rule Empty))
    (option_rule Settings)) (option_rule Mrs)) (option_rule Lattice)) (option_rule Verbose)

-- with these places from this one on
abbrev pub with_places : ℕ → List Value → App → App
with_places k [] a = a
with_places k (v ∷ places) a = with_places (suc k) places (with_rule a (place_rule_by v (place_id k)))

abbrev pub app_with : List Value → App
app_with places = with_places 0 places options_app
