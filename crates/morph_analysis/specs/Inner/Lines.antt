-- How the lines of lattices are read.
use Rattle.std.specs.Prelude.{ℕ, ◌≡◌, ◌<◌, ◌≤◌, ◌++◌, ◌+◌, Bool, false, List, [], ◌∷◌, length, encode_utf8_all, if◌then◌else◌}
use Rattle.std.specs.Char.{is_whitespace}
use Rattle.std.specs.List.{list_any}
use Rattle.lexicon.specs.Words.{Has}
use Rattle.morph_analysis.specs.declared.items.Item.{Item}
use Rattle.morph_analysis.specs.Lattices.{StepTree}
use Rattle.morph_analysis.specs.LatticeLines.{ItemTree, Items, IsNumber, Writes, same_step, once, AllWrite, IsEnd}

abbrev pub item_of : Item → ItemTree
item_of i = record { at = i.at; letters = i.letters.now }

-- nothing, or a character that is white space or isn't
abbrev pub BeginsWith : Bool → List ℕ → Type 0
BeginsWith blank [] = Unit {0}
BeginsWith blank (c ∷ cs) = is_whitespace c ≡ blank

-- what is left of characters from a place on, after white space
pub record IsLeft (at : ℕ) (letters : List ℕ) (left : ItemTree) : Type 0 where
  pub items : (more : List ItemTree) → Items left.at left.letters more → Items at letters more
  pub begins : BeginsWith false left.letters
  pub size : left.at + length (encode_utf8_all left.letters) ≡ at + length (encode_utf8_all letters)
  pub shorter : length left.letters ≤ length letters

-- characters before the first colon, and after it
pub record IsAtColon (letters before after : List ℕ) : Type 0 where
  pub split : letters ≡ before ++ 58 ∷ after
  pub none : Has 58 before → ⊥

-- what an item writes, its word as it stands there
pub record HasParts (item : List ℕ) (from to : ℕ) (word : List ℕ) : Type 0 where
  pub first : List ℕ
  pub second : List ℕ
  pub split : item ≡ first ++ 58 ∷ (second ++ 58 ∷ word)
  pub from_is : IsNumber first from
  pub to_is : IsNumber second to
  pub forward : from < to
  pub some : 0 < length word

abbrev pub HasNoParts : List ℕ → Type 0
HasNoParts item = (from to : ℕ) (word : List ℕ) → HasParts item from to word → ⊥

abbrev pub WritesNone : List ℕ → Type 0
WritesNone item = (s : StepTree) → Writes item s → ⊥

-- a step that isn't there yet goes last
abbrev pub with_step : List StepTree → StepTree → List StepTree
with_step ss s = if list_any (same_step s) ss then ss else ss ++ s ∷ []

-- what the items of a line so far have given
pub record HasRead (items : List ItemTree) (steps : List StepTree) (end : ℕ) : Type 0 where
  pub written : List StepTree
  pub each : AllWrite items written
  pub kept : steps ≡ once written
  pub ends_there : IsEnd written end
