-- The entries of a lexicon, by their words.
use Rattle.std.specs.Prelude.{ℕ, Bool, List, [], ◌∷◌, map, filter}
use Rattle.std.specs.Cmp.Lexicographic.{pointwise}
use Rattle.std.specs.List.Sorted.{IsPermutation, IsNonDecreasingBy}
use Rattle.std.specs.Str.{bytes_eq}
use Rattle.lexicon.specs.Words.{Word, Has}

-- an entry: its number, and its words
pub record EntryTree : Type 0 where
  pub number : ℕ
  pub words : List Word

-- A lexicon holds the entries that are given, by rising number.
pub record IsLexiconOf (given entries : List EntryTree) : Type 0 where
  pub same : IsPermutation given entries
  pub rising : IsNonDecreasingBy (λ e. e.number) entries

-- the same words
abbrev pub same_words : List Word → List Word → Bool
same_words = pointwise bytes_eq

-- the entries with exactly these words
abbrev pub with_words : List EntryTree → List Word → List ℕ
with_words entries words = map (λ e. e.number) (filter (λ e. same_words e.words words) entries)

abbrev pub last_word : List Word → Word
last_word [] = []
last_word (w ∷ []) = w
last_word (v ∷ w ∷ ws) = last_word (w ∷ ws)

abbrev pub HasNumber : List EntryTree → ℕ → Type 0
HasNumber entries n = Has n (map (λ e. e.number) entries)
