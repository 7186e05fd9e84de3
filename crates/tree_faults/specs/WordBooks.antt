-- What a grammar says of words, by the places of its entries and lexical rules.
use Rattle.std.specs.Prelude.{ℕ, ◌<◌, All, List}
use Rattle.chart_model.specs.At.{At}
use Rattle.derivation.specs.Trees.{Derivation, lexical, phrase}
use Rattle.spelling_rules.specs.Trees.{AreBound}
use Rattle.tree_model.specs.Lexical.{Words}
use Rattle.lexical_items.specs.Said.{AreNumbered, words_said}
use Rattle.tree_faults.specs.declared.word_book.WordBook.{WordBook}

abbrev pub Rise : List ℕ → Type 0
Rise places = (n m p q : ℕ) → At places n p → At places m q → n < m → p < q

-- The lexicon and the spelling number the entries and the lexical rules in order of place; each variable of a spelling rule is bound.
pub record IsWordBook (b : WordBook) : Type 0 where
  pub entries_rise : Rise b.entries.now
  pub rules_rise : Rise b.rules.now
  pub numbered : AreNumbered b.entries.now b.rules.now b.lexicon.now b.spelling.now
  pub bound : AreBound b.spelling.now.rules

abbrev pub said_by : WordBook → Words
said_by b = words_said b.entries.now b.rules.now b.lexicon.now b.spelling.now

-- the instances of a lexical tree are an entry and lexical rules
abbrev pub IsNumbered : WordBook → Derivation → Type 0
IsNumbered b (lexical entry rules said nodes) = ((n : ℕ) × At b.entries.now n entry) × All (λ rule. (n : ℕ) × At b.rules.now n rule) rules
IsNumbered b (phrase rule ds) = ⊥
