-- What the lexical trees of a grammar are made of.
use Rattle.std.specs.Prelude.{ℕ, List}
use Rattle.lexicon.specs.Entries.{EntryTree}
use Rattle.spelling_rules.specs.Trees.{SpellingTree}
use Rattle.tree_model.specs.Signs.{Signs}
use Rattle.tree_model.specs.Lexical.{Words}
use Rattle.morph_analysis.specs.Allowed.{FeedsTree}
use Rattle.lexical_items.specs.declared.grammar.LexicalGrammar.{LexicalGrammar}
use Rattle.lexical_items.specs.Said.{AreNumbered, words_said}
use Rattle.lexical_items.specs.Seen.{ForbidsNone}

-- its signs, the places of its entries and lexical rules, their words and forms by number, and what may apply to what
pub record GrammarTree : Type 0 where
  pub signs : Signs
  pub entries : List ℕ
  pub rules : List ℕ
  pub lexicon : List EntryTree
  pub spelling : SpellingTree
  pub feeds : FeedsTree

-- lexicon and spelling have its entries and lexical rules, and no lexical tree is forbidden
pub record IsLexicalGrammar (g : GrammarTree) : Type 0 where
  pub numbered : AreNumbered g.entries g.rules g.lexicon g.spelling
  pub feeds : ForbidsNone g.signs g.entries g.rules g.feeds

-- what it says of words
abbrev pub grammar_words : GrammarTree → Words
grammar_words g = words_said g.entries g.rules g.lexicon g.spelling

-- what contracts see of it, by what is said of full structures
abbrev pub grammar_seen : {F : Type 0} → (F → Signs) → (F → List ℕ) → (F → List ℕ) → LexicalGrammar F → GrammarTree
grammar_seen signs entries rules g = record { signs = signs g.fulls.now; entries = entries g.fulls.now; rules = rules g.fulls.now; lexicon = g.lexicon.now; spelling = g.spelling.now; feeds = g.feeds.now }
