-- What a lexicon and a spelling say of words, by the places of entries and lexical rules.
use Rattle.std.specs.Prelude.{ℕ, ◌≡◌, ◌==◌, ◌+◌, if◌then◌else◌, List, [], ◌∷◌, length, map}
use Rattle.std.specs.List.{range_with_len}
use Rattle.tree_model.specs.Lexical.{Word, Words}
use Rattle.lexicon.specs.Entries.{EntryTree}
use Rattle.spelling_rules.specs.Trees.{SpellingTree}
use Rattle.morph_analysis.specs.Chains.{HaveWords}

-- The lexicon has the entries and the spelling the lexical rules that stand at these places, each once and numbered in their order;
-- and each entry has a word.
pub record AreNumbered (entries rules : List ℕ) (lexicon : List EntryTree) (s : SpellingTree) : Type 0 where
  pub entries_are : map (λ e. e.number) lexicon ≡ range_with_len 0 (length entries)
  pub rules_are : length s.rules ≡ length rules
  pub have_words : HaveWords lexicon

-- the number of a place among these
abbrev pub number_in : List ℕ → ℕ → ℕ
number_in [] p = 0
number_in (q ∷ qs) p = if q == p then 0 else number_in qs p + 1

-- the words of the entry with a number
abbrev pub words_in : List EntryTree → ℕ → List Word
words_in [] n = []
words_in (e ∷ es) n = if e.number == n then e.words else words_in es n

-- the words of an entry are those that the lexicon gives, and the forms under a lexical rule those that the spelling gives
abbrev pub words_said : List ℕ → List ℕ → List EntryTree → SpellingTree → Words
words_said entries rules lexicon s = record { words_of = λ p. words_in lexicon (number_in entries p); spelling = s; number_of = number_in rules }
