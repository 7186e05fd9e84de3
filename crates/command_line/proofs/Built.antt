-- The command line as `clap` builds it.
use Rattle.std.proofs.Common.{◌≡◌, ◌==◌, ap, refl, ℕ, zero, suc, List, [], ◌∷◌, None, Some, true, false, slice_get, arith}
use Rattle.std.specs.Str.{bytes_eq}
use Rattle.clap.specs.Walk.{Rule, Text, arg_by_id, arg_by_index, arg_by_long}
use Rattle.clap.specs.Lexer.{long_of}
use Rattle.clap.specs.Simple.{App, Shape, built, new_rule, is_simple}
use Rattle.clap.specs.Faults.{is_simple_and_free}
use Rattle.clap.specs.declared.builder.action.ArgAction.TheVariants.{Set}
use Rattle.clap.specs.declared.builder.value_parser.ValueParser.{ValueParser}
use Rattle.clap.specs.declared.builder.value_parser.ValueParser.TheVariants as vp
use Rattle.command_line.specs.Words.{OptionName, Workers, Edges, Readings, Lexical, Unary, Empty, Settings, Mrs, Lattice, Verbose, Value, in_range, name, nothing, option_id, word_of, value_of}
use Rattle.command_line.specs.Inner.Rules.{app_with, options_app, place_id}
pub use Rattle.command_line.specs.Inner.Matches.{flag_rule}

-- the parser of a value
abbrev pub full_parser : Value → ValueParser
full_parser (in_range least greatest) = vp.Unsigned least greatest
full_parser value = vp.String

-- an option with one value
abbrev pub one_rule : ValueParser → Text → Rule
one_rule parser id = record (new_rule id) { long = Some id; action = Some Set; range = Some (record { start_inclusive = 1; end_inclusive = 1 }); parser = Some parser }

abbrev pub full_rule_by : Value → Text → Rule
full_rule_by nothing id = flag_rule id
full_rule_by value id = one_rule (full_parser value) id

abbrev pub full_rule : OptionName → Rule
full_rule o = full_rule_by (value_of o) (option_id o)

-- a place of a positional word
abbrev pub full_place : ℕ → Value → Rule
full_place k v = record (new_rule (place_id k)) {
  index = Some (suc k);
  action = Some Set;
  range = Some (record { start_inclusive = 1; end_inclusive = 1 });
  required = true;
  parser = Some (full_parser v);
}

abbrev pub place_rules : ℕ → List Value → List Rule
place_rules k [] = []
place_rules k (v ∷ places) = full_place k v ∷ place_rules (suc k) places

abbrev pub rules_with : List Value → List Rule
rules_with places = full_rule Workers ∷ full_rule Edges ∷ full_rule Readings ∷ full_rule Lexical ∷ full_rule Unary ∷ full_rule Empty ∷ full_rule Settings ∷ full_rule Mrs ∷ full_rule Lattice ∷ full_rule Verbose ∷ place_rules 0 places

abbrev pub shape_with : List Value → Shape
shape_with places = record (built options_app).top { rules = rules_with places }

abbrev pub built_with : List Value → App
built_with places = record { top = shape_with places; subs = [] }

-- the places that the commands have
pub data ArePlaces : List Value → Type 0 where
  none : ArePlaces []
  one : ArePlaces (name ∷ [])
  two : ArePlaces (name ∷ name ∷ [])
  numbers : ArePlaces (in_range 0 18446744073709551615 ∷ in_range 1 1000 ∷ [])

pub built-is : (places : List Value) → ArePlaces places → built (app_with places) ≡ built_with places
built-is places none = refl
built-is places one = refl
built-is places two = refl
built-is places numbers = refl

pub is-simple : (places : List Value) → ArePlaces places → is_simple_and_free (app_with places) ≡ true
is-simple places none = refl
is-simple places one = refl
is-simple places two = refl
is-simple places numbers = refl

pub is-plain : (places : List Value) → ArePlaces places → is_simple (app_with places) ≡ true
is-plain places none = refl
is-plain places one = refl
is-plain places two = refl
is-plain places numbers = refl

pub long-is : (places : List Value) (o : OptionName) → arg_by_long (rules_with places) (option_id o) ≡ Some (full_rule o)
long-is places Workers = refl
long-is places Edges = refl
long-is places Readings = refl
long-is places Lexical = refl
long-is places Unary = refl
long-is places Empty = refl
long-is places Settings = refl
long-is places Mrs = refl
long-is places Lattice = refl
long-is places Verbose = refl

pub id-is : (places : List Value) (o : OptionName) → arg_by_id (rules_with places) (option_id o) ≡ Some (full_rule o)
id-is places Workers = refl
id-is places Edges = refl
id-is places Readings = refl
id-is places Lexical = refl
id-is places Unary = refl
id-is places Empty = refl
id-is places Settings = refl
id-is places Mrs = refl
id-is places Lattice = refl
id-is places Verbose = refl

pub long-word : (o : OptionName) → long_of (word_of o) ≡ Some (option_id o, None)
long-word Workers = refl
long-word Edges = refl
long-word Readings = refl
long-word Lexical = refl
long-word Unary = refl
long-word Empty = refl
long-word Settings = refl
long-word Mrs = refl
long-word Lattice = refl
long-word Verbose = refl

pub not-dashes : (o : OptionName) → bytes_eq (word_of o) (45 ∷ 45 ∷ []) ≡ false
not-dashes Workers = refl
not-dashes Edges = refl
not-dashes Readings = refl
not-dashes Lexical = refl
not-dashes Unary = refl
not-dashes Empty = refl
not-dashes Settings = refl
not-dashes Mrs = refl
not-dashes Lattice = refl
not-dashes Verbose = refl

-- what stands at a place
pub place-at : (places : List Value) (k : ℕ) (v : Value) → ArePlaces places → slice_get places k ≡ Some v → arg_by_index (rules_with places) (suc k) ≡ Some (full_place k v)
place-at [] k v are e = cc
place-at (a ∷ []) zero v are e = let same : a ≡ v = cc in ap (λ x. Some (full_place 0 x)) same
place-at (a ∷ []) (suc k) v are e = cc
place-at (a ∷ b ∷ []) zero v are e = let same : a ≡ v = cc in ap (λ x. Some (full_place 0 x)) same
place-at (a ∷ b ∷ []) (suc zero) v are e = let same : b ≡ v = cc in ap (λ x. Some (full_place 1 x)) same
place-at (a ∷ b ∷ []) (suc (suc k)) v are e = cc
place-at (a ∷ b ∷ d ∷ places) k v are e = elim are [ ]

pub place-by : (places : List Value) (k : ℕ) (v : Value) → ArePlaces places → slice_get places k ≡ Some v → arg_by_id (rules_with places) (place_id k) ≡ Some (full_place k v)
place-by [] k v are e = cc
place-by (a ∷ []) zero v are e = let same : a ≡ v = cc in ap (λ x. Some (full_place 0 x)) same
place-by (a ∷ []) (suc k) v are e = cc
place-by (a ∷ b ∷ []) zero v are e = let same : a ≡ v = cc in ap (λ x. Some (full_place 0 x)) same
place-by (a ∷ b ∷ []) (suc zero) v are e = let same : b ≡ v = cc in ap (λ x. Some (full_place 1 x)) same
place-by (a ∷ b ∷ []) (suc (suc k)) v are e = cc
place-by (a ∷ b ∷ d ∷ places) k v are e = elim are [ ]

first-apart : (k : ℕ) → (1 == suc (suc k)) ≡ false
first-apart k = grind arith

second-apart : (k : ℕ) → (2 == suc (suc (suc k))) ≡ false
second-apart k = grind arith

pub no-place : (places : List Value) (k : ℕ) → ArePlaces places → slice_get places k ≡ None → arg_by_index (rules_with places) (suc k) ≡ None
no-place [] k are e = refl
no-place (a ∷ []) zero are e = cc
no-place (a ∷ []) (suc k) are e = rw (first-apart k) refl
no-place (a ∷ b ∷ []) zero are e = cc
no-place (a ∷ b ∷ []) (suc zero) are e = cc
no-place (a ∷ b ∷ []) (suc (suc k)) are e = rw (first-apart (suc k), second-apart k) refl
no-place (a ∷ b ∷ d ∷ places) k are e = elim are [ ]
