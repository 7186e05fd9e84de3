-- How reading fails: nothing goes on where so many bytes are left.
use Rattle.std.specs.Prelude.{ℕ, ◌≡◌, ◌⊎◌, List, [], ◌∷◌, ◌++◌, length, Option, Some, None}
use Rattle.std.specs.List.{flat_map, join_with_byte}
use Rattle.derivation.specs.Text.{escaped, nodes_text}
use Rattle.std.specs.Fmt.{decimal}
use Rattle.std.specs.Prelude.{◌<◌, ◌-◌, ◌+◌, ◌*◌, ◌^◌, ◌&&◌, nat_le, Bool, true, false, All, ◌==◌, ◌||◌}
use Rattle.tree_reading.specs.declared.stops.Stop.{Stop}
use Rattle.tree_reading.specs.declared.stops.Stop.TheVariants.{Left, NoMemory}
use Rattle.tree_reading.specs.Grammars.{TreeGrammar, IsWord, AreWords, AreNodes, ends_name}
use Rattle.tree_reading.specs.Inner.Shapes.{Shape, IsShape, text}

-- both end, or both begin with one byte
abbrev pub IsAlike : List ℕ → List ℕ → Type 0
IsAlike [] [] = Unit {0}
IsAlike (x ∷ xs) (y ∷ ys) = x ≡ y
IsAlike _ _ = ⊥

-- Of texts K, which are the beginnings of texts L: one begins with what is done, and none goes on as the text does.
pub record Fails (K L : List ℕ → Type 0) (whole : List ℕ) (left : ℕ) : Type 0 where
  pub done : List ℕ
  pub tail : List ℕ
  pub is : whole ≡ done ++ tail
  pub left_is : length tail ≡ left
  pub goes : (more : List ℕ) × K (done ++ more)
  pub stops : (more : List ℕ) → IsAlike tail more → L (done ++ more) → ⊥

abbrev pub IsStop : (List ℕ → Type 0) → (List ℕ → Type 0) → List ℕ → Stop → Type 0
IsStop K L whole (Left n) = Fails K L whole n
IsStop K L whole NoMemory = Unit {0}

-- it begins with a byte of these, or ends
abbrev pub IsCut : List ℕ → Type 0
IsCut [] = Unit {0}
IsCut (x ∷ xs) = ends_name x ≡ true

-- a blank, a quote or a backslash
abbrev pub ends_run : ℕ → Bool
ends_run byte = byte == 32 || byte == 34 || byte == 92

abbrev pub IsRunCut : List ℕ → Type 0
IsRunCut [] = Unit {0}
IsRunCut (x ∷ xs) = ends_run x ≡ true

-- a word as it stands between quotes, and what ends it
abbrev pub EndsWord : ℕ → Type 0
EndsWord x = (x ≡ 32) ⊎ (x ≡ 34)

abbrev pub IsWordEnd : List ℕ → Type 0
IsWordEnd [] = ⊥
IsWordEnd (x ∷ xs) = EndsWord x

-- a part of a word was read, up to a blank, a quote or a backslash
pub record HasAdded (old new whole rest : List ℕ) : Type 0 where
  pub part : List ℕ
  pub grown : new ≡ old ++ part
  pub plain : All (λ byte. (byte == 32) ≡ false) part
  pub is : whole ≡ flat_map escaped part ++ rest
  pub cut : IsRunCut rest

-- a quote or a backslash stands before the rest
abbrev pub IsEscaped : List ℕ → List ℕ → List ℕ → Type 0
IsEscaped whole byte rest = ((byte ≡ 34 ∷ []) ⊎ (byte ≡ 92 ∷ [])) × (whole ≡ byte ++ rest)

abbrev pub IsEndedWord : List ℕ → Type 0
IsEndedWord bytes = (word : List ℕ) × (x : ℕ) × IsWord word × EndsWord x × (bytes ≡ flat_map escaped word ++ x ∷ [])

abbrev pub BeginsWord : List ℕ → Type 0
BeginsWord bytes = (word : List ℕ) × (x : ℕ) × (after : List ℕ) × IsWord word × EndsWord x × (bytes ≡ flat_map escaped word ++ x ∷ after)

-- words as they stand between quotes, with the second one
abbrev pub body : List (List ℕ) → List ℕ
body words = flat_map escaped (join_with_byte 32 words) ++ 34 ∷ []

abbrev pub IsBody : List ℕ → Type 0
IsBody bytes = (words : List (List ℕ)) × AreWords words × (bytes ≡ body words)

abbrev pub BeginsBody : List ℕ → Type 0
BeginsBody bytes = (words : List (List ℕ)) × (after : List ℕ) × AreWords words × (bytes ≡ body words ++ after)

-- a number, and the byte that ends it
abbrev pub IsNumber : ℕ → List ℕ → Type 0
IsNumber end bytes = (n : ℕ) × (n < 2 ^ 32) × (bytes ≡ decimal n ++ end ∷ [])

abbrev pub BeginsNumber : ℕ → List ℕ → Type 0
BeginsNumber end bytes = (n : ℕ) × (after : List ℕ) × (n < 2 ^ 32) × (bytes ≡ decimal n ++ end ∷ after)

abbrev pub is_digit : ℕ → Bool
is_digit byte = nat_le 48 byte && nat_le byte 57

-- the number that a digit more makes
abbrev pub IsNext : Option ℕ → ℕ → ℕ → Type 0
IsNext None byte next = (is_digit byte ≡ true) × (next ≡ byte - 48)
IsNext (Some n) byte next = (is_digit byte ≡ true) × (0 < n) × (next ≡ 10 * n + (byte - 48)) × (next < 2 ^ 32)

-- the digits that stand at the beginning, as far as they make a number below 2^32 without zeros before it
abbrev pub spelling : Option ℕ → List ℕ
spelling None = []
spelling (Some n) = decimal n

abbrev pub EndsAt : Option ℕ → List ℕ → Type 0
EndsAt n [] = Unit {0}
EndsAt n (x ∷ xs) = (next : ℕ) → IsNext n x next → ⊥

pub record Numbers (whole : List ℕ) (number : Option ℕ) (rest : List ℕ) : Type 0 where
  pub is : whole ≡ spelling number ++ rest
  pub fits : (n : ℕ) → number ≡ Some n → n < 2 ^ 32
  pub ends : EndsAt number rest

-- nodes and the end of a leaf
abbrev pub ending : Option (ℕ × ℕ) → List ℕ
ending nodes = nodes_text true nodes ++ 41 ∷ []

abbrev pub IsEnding : List ℕ → Type 0
IsEnding bytes = (nodes : Option (ℕ × ℕ)) × AreNodes nodes × (bytes ≡ ending nodes)

abbrev pub BeginsEnding : List ℕ → Type 0
BeginsEnding bytes = (nodes : Option (ℕ × ℕ)) × (after : List ℕ) × AreNodes nodes × (bytes ≡ ending nodes ++ after)

-- what follows the first quote of a leaf
abbrev pub IsLeafEnd : List ℕ → Type 0
IsLeafEnd bytes = (words : List (List ℕ)) × (nodes : Option (ℕ × ℕ)) × AreWords words × AreNodes nodes × (bytes ≡ body words ++ ending nodes)

abbrev pub BeginsLeafEnd : List ℕ → Type 0
BeginsLeafEnd bytes = (words : List (List ℕ)) × (nodes : Option (ℕ × ℕ)) × (after : List ℕ) × AreWords words × AreNodes nodes × (bytes ≡ body words ++ ending nodes ++ after)

-- the text of a tree over the grammar
abbrev pub IsText : TreeGrammar → List ℕ → Type 0
IsText g bytes = (s : Shape) × IsShape g s × (bytes ≡ text s)
