-- What `clap` finds of the words of items.
use Rattle.std.specs.Prelude.{◌≡◌, ℕ, suc, List, [], ◌∷◌, None, Some, codes}
use Rattle.clap.specs.Words.{Row, Rule, Text, new_rule, rows_of, found_of}
use Rattle.clap.specs.Walk.{with_default}
use Rattle.clap.specs.declared.parser.matches.ArgMatches.{ArgMatches}
use Rattle.clap.specs.declared.builder.action.ArgAction.TheVariants.{SetTrue}
use Rattle.clap.specs.declared.builder.value_parser.Reading.TheVariants.{AsWritten}
use Rattle.clap.specs.declared.builder.value_parser.ValueParser.TheVariants as vp
use Rattle.clap.specs.declared.parser.matches.ValueSource.TheVariants.{CommandLine}
use Rattle.command_line.specs.Words.{Mrs, Lattice, Verbose, Value, nothing, option_id, value_of, Item, positional, option as an_option, words_of, AreItems, AreOnce, positionals, FillPlaces}
use Rattle.command_line.specs.Inner.Rules.{place_id}

abbrev pub flag_rule : Text → Rule
flag_rule id = record (new_rule id) {
  long = Some id;
  action = Some SetTrue;
  range = Some (record { start_inclusive = 0; end_inclusive = 0 });
  defaults = codes "false" ∷ [];
  missing = codes "true" ∷ [];
  parser = Some vp.Bool;
}

-- what is found for a use
abbrev pub row_by : Text → List Text → Row
row_by id values = record { id = id; values = values; count = None; source = Some CommandLine; reading = AsWritten }

abbrev pub values_given : Value → List Text → List Text
values_given nothing vs = codes "true" ∷ []
values_given v vs = vs

abbrev pub item_rows : ℕ → List Item → List Row
item_rows k [] = []
item_rows k (positional w ∷ items) = row_by (place_id k) (w ∷ []) ∷ item_rows (suc k) items
item_rows k (an_option o vs ∷ items) = row_by (option_id o) (values_given (value_of o) vs) ∷ item_rows k items

-- a flag that doesn't stand gets its default
abbrev pub with_flag : Text → List Row → List Row
with_flag id rows = with_default rows (flag_rule id)

-- what is found in the end
abbrev pub final : List Row → List Row
final rows = with_flag (option_id Verbose) (with_flag (option_id Lattice) (with_flag (option_id Mrs) rows))

-- The words are those of items that fill the places, and these are the matches.
pub record Finds (places : List Value) (words : List (List ℕ)) (m : ArgMatches) : Type 0 where
  pub items : List Item
  pub written : words ≡ words_of items
  pub items_are : AreItems items
  pub once : AreOnce items
  pub filled : FillPlaces places (positionals items)
  pub rows : rows_of (found_of m) ≡ final (item_rows 0 items)

-- Items that fill the places don't write the words.
abbrev pub IsRefused : List Value → List (List ℕ) → Type 0
IsRefused places words = (items : List Item) → words ≡ words_of items → AreItems items → AreOnce items → FillPlaces places (positionals items) → ⊥
