-- Entries with the same words, under their last word.
use Rattle.std.specs.Prelude.{ℕ, ◌≡◌, false, List, [], ◌∷◌, String, Vec, map, if◌then◌else◌, string_bytes}
use Rattle.std.specs.Global.{Global}
use Rattle.lexicon.specs.Words.{Word, Each}
pub use Rattle.lexicon.specs.Words.{words_in}
use Rattle.lexicon.specs.declared.groups.Group.{Group}
use Rattle.lexicon.specs.Entries.{EntryTree, same_words, with_words, last_word}

-- entries that have the same words
pub record GroupTree : Type 0 where
  pub words : List Word
  pub entries : List ℕ

abbrev pub group_of : Group → GroupTree
group_of g = record { words = words_in g.words; entries = g.entries.items }

-- what is given to a lexicon
abbrev pub given_of : ℕ × Vec (String Global) Global → EntryTree
given_of p = record { number = p.0; words = words_in p.1 }

-- the entries of a group's words
abbrev pub found : List GroupTree → List Word → List ℕ
found [] words = []
found (g ∷ gs) words = if same_words g.words words then g.entries else found gs words

-- no two groups have the same words
abbrev pub AreApart : List GroupTree → Type 0
AreApart [] = Unit {0}
AreApart (g ∷ gs) = Each (λ h. same_words g.words h.words ≡ false) gs × AreApart gs

-- The groups of a last word: all entries that end with it, those with the same words together.
pub record AreGroupsOf (entries : List EntryTree) (last : Word) (groups : List GroupTree) : Type 0 where
  pub all : (words : List Word) → last_word words ≡ last → found groups words ≡ with_words entries words
  pub only : Each (λ g. last_word g.words ≡ last) groups
  pub apart : AreApart groups
