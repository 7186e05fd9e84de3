-- Profiles: items of a test suite (Oepen and Carroll 2000), each with what is expected of it and the trees that are written for it.
-- A profile's lines end with byte 10, the last one with or without.
use Rattle.std.specs.Prelude.{ℕ, ◌^◌, ◌==◌, ◌&&◌, ◌||◌, not, nat_lt, Bool, true, false, if◌then◌else◌, List, [], ◌∷◌, length, Option, Some, None, codes, encode_utf8_all}
use Rattle.std.specs.Char.{is_whitespace}
use Rattle.std.specs.Option.{option_or}
use Rattle.std.specs.Str.{all_ascii_digits, bytes_eq, chars, is_utf8, skip_leading_whitespace}
use Rattle.std.specs.Str.Parse.{digits_value}
use Rattle.lkb_io.specs.Lines.{lines_of}
use Rattle.profile_reports.specs.declared.profiles.Expected.{Expected}
use Rattle.profile_reports.specs.declared.profiles.Expected.TheVariants.{Unknown, Readings, LexicalDepth, UnaryChain, Edges, TooManyReadings}
use Rattle.profile_reports.specs.Names.{lexical_depth_name, unary_chain_name, edges_name, readings_name}

-- An item: why its line is bad, or what is expected of a sentence, and the trees that are written below it.
pub data Item : Type 0 where
  too_long : Item
  not_utf8 : Item
  no_item : Item
  an_item : (expected : Expected) (sentence : List ℕ) (trees : List (List ℕ)) → Item

-- a line that is passed over: it is empty or begins with a semicolon
abbrev pub is_passed : List ℕ → Bool
is_passed [] = true
is_passed (b ∷ bs) = b == 59

-- a line that writes a tree: it begins with two blanks
abbrev pub is_tree : List ℕ → Bool
is_tree (a ∷ b ∷ bs) = (a == 32) && (b == 32)
is_tree other = false

-- such a line after its two blanks
abbrev pub tree_in : List ℕ → List ℕ
tree_in (a ∷ b ∷ bs) = bs
tree_in other = []

-- the characters up to the first white space, and those from there on
abbrev pub first_run : List ℕ → List ℕ
first_run [] = []
first_run (c ∷ cs) = if is_whitespace c then [] else c ∷ first_run cs

abbrev pub after_run : List ℕ → List ℕ
after_run [] = []
after_run (c ∷ cs) = if is_whitespace c then c ∷ cs else after_run cs

-- one or more decimal digits
abbrev pub is_number : List ℕ → Bool
is_number word = not (length word == 0) && all_ascii_digits word

-- the number of readings that a word writes, in 32 bits
abbrev pub number_of : List ℕ → Option Expected
number_of word =
    if is_number word then (if nat_lt (digits_value 10 word) (2 ^ 32) then Some (Readings (digits_value 10 word)) else None)
    else None

-- what a word names
abbrev pub named : List ℕ → Option Expected
named word =
    if bytes_eq word (codes "?") then Some Unknown
    else (if bytes_eq word lexical_depth_name then Some LexicalDepth
    else (if bytes_eq word unary_chain_name then Some UnaryChain
    else (if bytes_eq word edges_name then Some Edges
    else (if bytes_eq word readings_name then Some TooManyReadings else None))))

-- what a word says is expected
abbrev pub expected_of : List ℕ → Option Expected
expected_of word = option_or (named word) (number_of word)

abbrev pub item_with : Option Expected → List ℕ → List (List ℕ) → Item
item_with None sentence trees = no_item
item_with (Some expected) sentence trees = an_item expected sentence trees

-- the item that these characters write, with these trees: the first run without white space is the expectation, and the rest the
-- sentence
abbrev pub written : List ℕ → List (List ℕ) → Item
written cs trees = item_with (expected_of (encode_utf8_all (first_run cs))) (encode_utf8_all (after_run cs)) trees

-- The item of a line, with the trees that are written below it. It is bad where it has more than 65,535 bytes, isn't UTF-8, or begins
-- with no expectation, in this order.
abbrev pub item_of : List ℕ → List (List ℕ) → Item
item_of line trees =
    if nat_lt 65535 (length line) then too_long
    else (if is_utf8 line then written (skip_leading_whitespace (chars line)) trees else not_utf8)

-- the trees that stand in front of the first item of these lines
abbrev pub trees_before : List (List ℕ) → List (List ℕ)
trees_before [] = []
trees_before (line ∷ lines) =
    if is_passed line then trees_before lines else (if is_tree line then tree_in line ∷ trees_before lines else [])

-- the items of lines; a tree without an item above it is passed over
abbrev pub items_in : List (List ℕ) → List Item
items_in [] = []
items_in (line ∷ lines) =
    if is_passed line || is_tree line then items_in lines else item_of line (trees_before lines) ∷ items_in lines

-- the items of a profile
abbrev pub items_of : List ℕ → List Item
items_of text = items_in (lines_of text)
